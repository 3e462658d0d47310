use Rattle.std.proofs.Common.{◌≡◌, ◌++◌, drop}
use Rattle.caf_words.specs.Reading.{bytes_in}
use Rattle.caf_words.proofs.packing.unpack.Given as goal

abbrev pub invariant-loop-word : goal.invariant-loop-word
invariant-loop-word l = l.bytes.items ++ bytes_in (drop l.word-index l.words) ≡ bytes_in l.words
