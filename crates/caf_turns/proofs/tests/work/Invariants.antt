use Rattle.std.proofs.Common.{◌≡◌, ◌≤◌}
use Rattle.caf_turns.specs.Steps.{announced}
use Rattle.caf_turns.proofs.tests.work.Given as goal

abbrev pub invariant-loop-n : goal.invariant-loop-n
invariant-loop-n l = (l.seat.table ≡ l.fn.seat.table) × (l.seat.out ≡ l.fn.seat.out) × (l.seat.parts ≡ l.fn.seat.parts) × (announced l.seat.steps ≤ l.n)
