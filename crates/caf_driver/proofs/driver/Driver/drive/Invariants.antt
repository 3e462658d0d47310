use Rattle.std.proofs.Common.{◌≡◌, ℕ, false}
use Rattle.caf_actor.specs.declared.snapshot.Snapshot.{Snapshot}
use Rattle.caf_driver.specs.Driver.{IsDriven}
use Rattle.caf_driver.specs.Driving.{state_of, room_of}
use Rattle.caf_driver.proofs.driver.Driver.drive.Given as goal

abbrev pub invariant-loop-end : goal.invariant-loop-end
invariant-loop-end g l = record {
  whole : l.self.is_broken ≡ false;
  driven : (start : ℕ → Snapshot g.row.B.Denot) → IsDriven g.B.Behavior.rules start (state_of l.fn.self) → IsDriven g.B.Behavior.rules start (state_of l.self);
  spoken : l.self.spoken ≡ l.fn.self.spoken;
  stopped : l.self.has_stopped ≡ l.fn.self.has_stopped;
}

abbrev pub decreases-loop-end : goal.decreases-loop-end
decreases-loop-end g l = room_of l.self.actors
