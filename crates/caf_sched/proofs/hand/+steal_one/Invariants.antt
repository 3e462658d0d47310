use Rattle.std.proofs.Common.{length}
use Rattle.caf_sched.proofs.hand.+steal_one.Given as goal

abbrev pub decreases-steal_one : goal.decreases-steal_one
decreases-steal_one g l = length l.others.now
