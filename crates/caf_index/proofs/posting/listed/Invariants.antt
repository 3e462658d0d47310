use Rattle.std.proofs.Common.{◌≡◌, take}
use Rattle.std.specs.Prelude.{map}
use Rattle.caf_index.specs.Postings.{posting_at}
use Rattle.caf_index.proofs.posting.listed.Given as goal

abbrev pub invariant-loop-word : goal.invariant-loop-word
invariant-loop-word l = l.postings ≡ map (λ word. posting_at word.0.now word.1) (take l.word-index l.words)
