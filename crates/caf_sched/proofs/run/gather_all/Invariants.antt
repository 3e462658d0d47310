use Rattle.std.proofs.Common.{◌≡◌, map, Ok}
use Rattle.caf_sched.proofs.run.gather_all.Given as goal

abbrev pub invariant-loop-worker : goal.invariant-loop-worker
invariant-loop-worker g l = map Ok l.workers.items ≡ l.yielded
