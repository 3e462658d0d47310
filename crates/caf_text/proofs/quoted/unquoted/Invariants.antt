use Rattle.std.proofs.Common.{◌≡◌, [], drop}
use Rattle.caf_text.specs.TextReading.{unquoted}
use Rattle.caf_text.proofs.quoted.unquoted.Given as goal

abbrev pub invariant-loop-i : goal.invariant-loop-i
invariant-loop-i l = unquoted (drop l.i l.bytes) l.mark l.content.items ≡ unquoted l.bytes l.fn.start []
