use Rattle.std.proofs.Common.{◌≡◌, ◌≤◌, drop}
use Rattle.caf_text.specs.TextReading.{digits}
use Rattle.caf_text.proofs.number.digits.Given as goal

abbrev pub invariant-loop-i : goal.invariant-loop-i
invariant-loop-i l = (digits l.greatest (drop l.i l.bytes) l.number ≡ digits l.greatest l.bytes l.first) × (l.first ≤ l.number) × (l.number ≤ l.greatest)
