use Rattle.std.proofs.Common.{◌≡◌, ◌+◌, ◌≤◌, drop, string_bytes}
use Rattle.caf_index.specs.Words.{words_of}
use Rattle.caf_index.specs.PlainIndex.{with_words}
use Rattle.caf_index.proofs.WordLemmas.{words_after}
use Rattle.caf_index.proofs.words.add_words.Given as goal

abbrev pub invariant-loop-byte : goal.invariant-loop-byte
invariant-loop-byte l = record {
  words : with_words l.index l.file (words_after (string_bytes l.word) l.line (drop l.byte-index l.bytes)) ≡ with_words l.initial.index l.file (words_of l.bytes);
  counted : l.line ≤ l.byte-index + 1;
}
