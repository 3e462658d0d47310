use Rattle.std.proofs.Common.{◌≡◌}
use Rattle.crossbeam_deque.specs.Handles.{IsPassOf, stealer_deque}
use Rattle.crossbeam_deque.specs.Handles as handles
use Rattle.caf_sched.proofs.ends.steal.Given as goal

abbrev pub invariant-loop : goal.invariant-loop
invariant-loop g l = IsPassOf (stealer_deque l.stealer) l.pass × (handles.view l.pass ≡ handles.view l.fn.pass)
