use Rattle.std.proofs.Common.{◌≡◌}
use Rattle.caf_turns.proofs.tests.take_rest.Given as goal

abbrev pub invariant-loop-place : goal.invariant-loop-place
invariant-loop-place l = l.seat ≡ record l.fn.seat { steps = l.seat.steps }
