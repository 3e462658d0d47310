use Rattle.std.proofs.Common.{◌≡◌, length}
use Rattle.caf_actor.specs.PlainForms.{reached}
use Rattle.caf_actor.specs.Quitting.{break_holds}
use Rattle.caf_actor.proofs.snapshot.Snapshot.break_holds.Given as goal

abbrev pub invariant-loop-promise : goal.invariant-loop-promise
invariant-loop-promise g l = break_holds (reached l.self l.posts) l.holds ≡ break_holds (reached l.fn.self l.fn.posts) l.fn.holds

abbrev pub decreases-loop-promise : goal.decreases-loop-promise
decreases-loop-promise g l = length l.holds
