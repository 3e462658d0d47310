use Rattle.std.proofs.Common.{ℕ, ◌+◌}
use Rattle.caf_actor.specs.declared.snapshot.Snapshot.{Snapshot}
use Rattle.caf_driver.specs.Driver.{IsDriven}
use Rattle.caf_driver.specs.Driving.{state_of}
use Rattle.caf_kinds.specs.Kinds.{kind_rules}
use Rattle.caf_kinds.specs.declared.kind.Kind.{Kind}
use Rattle.caf_play.specs.Ending.{IsResting, StandsSomewhere}
use Rattle.caf_play.proofs.playing.run.Given as goal

-- the driver rests behind Start and the ticks so far
abbrev pub invariant-loop-ticked : goal.invariant-loop-ticked
invariant-loop-ticked g l = record {
  resting : IsResting (l.ticked + 1) (state_of l.driver);
  stands : StandsSomewhere (state_of l.driver);
  led : (start : ℕ → Snapshot Kind) → IsDriven kind_rules start (state_of l.fn.driver) → IsDriven kind_rules start (state_of l.driver);
}
