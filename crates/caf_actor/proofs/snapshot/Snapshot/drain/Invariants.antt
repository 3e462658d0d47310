use Rattle.std.proofs.Common.{◌≡◌}
use Rattle.caf_types.specs.Table.{shape_at}
use Rattle.caf_types.specs.TypeTable.{seen}
use Rattle.caf_actor.specs.PlainForms.{reached}
use Rattle.caf_actor.specs.Actor.{CachesFit}
use Rattle.caf_actor.specs.Snapshot.{cached}
use Rattle.caf_actor.specs.Drain.{drain}
use Rattle.caf_actor.specs.Eligibility.{is_eligible}
use Rattle.caf_mailbox.specs.Passed.{IsPassed}
use Rattle.caf_actor.proofs.snapshot.Snapshot.drain.Given as goal

abbrev pub invariant-loop-envelope : goal.invariant-loop-envelope
invariant-loop-envelope g l = record {
  same : drain g.B.Behavior.rules (reached l.self l.posts) ≡ drain g.B.Behavior.rules (reached l.fn.self l.fn.posts);
  fits : CachesFit (shape_at (seen l.table)) l.self.caches;
  passed : IsPassed (is_eligible g.B.Behavior.rules l.self) l.self.caches l.passed;
}

abbrev pub decreases-loop-envelope : goal.decreases-loop-envelope
decreases-loop-envelope g l = cached l.self
