use Rattle.std.proofs.Common.{◌≡◌}
use Rattle.caf_actor.specs.PlainForms.{reached}
use Rattle.caf_actor.specs.Ticking.{expire_all, due_count}
use Rattle.caf_actor.proofs.snapshot.Snapshot.expire_all.Given as goal

abbrev pub invariant-loop-waiting : goal.invariant-loop-waiting
invariant-loop-waiting g l = expire_all g.B.Behavior.rules (reached l.self l.posts) ≡ expire_all g.B.Behavior.rules (reached l.fn.self l.fn.posts)

abbrev pub decreases-loop-waiting : goal.decreases-loop-waiting
decreases-loop-waiting g l = due_count l.self
