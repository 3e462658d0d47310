use Rattle.std.proofs.Common.{◌≡◌, length, All}
use Rattle.caf_sched.specs.Ends.{new_own}
use Rattle.caf_sched.proofs.crew.make_owns.Given as goal

abbrev pub invariant-loop-worker : goal.invariant-loop-worker
invariant-loop-worker l = (length l.owns.items ≡ l.worker) × All (λ o. o ≡ new_own) l.owns.items
