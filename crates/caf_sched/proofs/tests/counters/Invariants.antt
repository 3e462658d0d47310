use Rattle.std.proofs.Common.{◌≡◌, length}
use Rattle.caf_sched.proofs.tests.counters.Given as goal

abbrev pub invariant-loop-place : goal.invariant-loop-place
invariant-loop-place l = length l.all.items ≡ l.place
