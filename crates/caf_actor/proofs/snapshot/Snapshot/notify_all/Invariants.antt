use Rattle.std.proofs.Common.{◌≡◌, length}
use Rattle.caf_actor.specs.PlainForms.{reached}
use Rattle.caf_actor.specs.Quitting.{notify_all}
use Rattle.caf_actor.proofs.snapshot.Snapshot.notify_all.Given as goal

abbrev pub invariant-loop-to : goal.invariant-loop-to
invariant-loop-to g l = notify_all (reached l.self l.posts) l.notices ≡ notify_all (reached l.fn.self l.fn.posts) l.fn.notices

abbrev pub decreases-loop-to : goal.decreases-loop-to
decreases-loop-to g l = length l.notices
