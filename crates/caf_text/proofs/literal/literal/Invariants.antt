use Rattle.std.proofs.Common.{◌≡◌, drop}
use Rattle.caf_text.specs.TextReading.{literal}
use Rattle.caf_text.proofs.literal.literal.Given as goal

abbrev pub invariant-loop-byte : goal.invariant-loop-byte
invariant-loop-byte l = literal (drop l.byte-index l.word) l.rest ≡ literal l.word l.bytes
