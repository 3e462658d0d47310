use Rattle.std.proofs.Common.{◌≤◌}
use Rattle.std.specs.Prelude.{All, IsTrue, map}
use Rattle.caf_index.specs.Words.{is_word_byte}
use Rattle.caf_index.specs.Postings.{posting_at}
use Rattle.caf_index.proofs.PostingLemmas.{read_part, AreAll}
use Rattle.caf_index.proofs.posting.words_at.Given as goal

abbrev pub invariant-loop-at : goal.invariant-loop-at
invariant-loop-at l = record {
  order : l.from ≤ l.at;
  run : All (λ byte. IsTrue (is_word_byte byte)) (read_part l.text l.from l.at);
  all : AreAll l.text l.first (map (λ word. posting_at word.0.now word.1) l.words.items) l.from l.line l.at;
}
