use Rattle.std.proofs.Common.{◌≡◌, ◌++◌, drop, flat_map}
use Rattle.caf_text.specs.TextForm.{escape}
use Rattle.caf_text.proofs.writing.add_each_escaped.Given as goal

abbrev pub invariant-loop-byte : goal.invariant-loop-byte
invariant-loop-byte l = l.escaped.items ++ flat_map escape (drop l.byte-index l.bytes) ≡ l.fn.escaped.items ++ flat_map escape l.bytes
