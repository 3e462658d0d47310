use Rattle.std.proofs.Common.{◌≡◌, length}
use Rattle.caf_actor.specs.PlainForms.{reached}
use Rattle.caf_actor.specs.Ticking.{deliver_all}
use Rattle.caf_actor.proofs.snapshot.Snapshot.deliver_all.Given as goal

abbrev pub invariant-loop-to : goal.invariant-loop-to
invariant-loop-to g l = deliver_all (reached l.self l.posts) ≡ deliver_all (reached l.fn.self l.fn.posts)

abbrev pub decreases-loop-to : goal.decreases-loop-to
decreases-loop-to g l = length l.self.delays
