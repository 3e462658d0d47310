use Rattle.std.proofs.Common.{◌≡◌, drop}
use Rattle.caf_words.specs.Reading.{are_zeros}
use Rattle.caf_words.proofs.packing.are_all_zero.Given as goal

abbrev pub invariant-loop-byte : goal.invariant-loop-byte
invariant-loop-byte l = are_zeros (drop l.byte-index l.bytes) ≡ are_zeros l.bytes
