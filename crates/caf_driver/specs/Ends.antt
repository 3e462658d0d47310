-- How a drive ends.
use Rattle.std.specs.Prelude.{ℕ, ◌<◌, ◌≤◌}
use Rattle.caf_actor.specs.Record.{machine_of, IsAtRest, handled}
use Rattle.caf_actor.specs.declared.snapshot.Snapshot.{Snapshot}
use Rattle.caf_actor.specs.Rules.{Rules}
use Rattle.caf_driver.specs.declared.drive.DriveEnd.{DriveEnd}
use Rattle.caf_driver.specs.declared.drive.DriveEnd.TheVariants as ends
use Rattle.caf_driver.specs.Driver.{DriverState, record_in, IsAllHeard, Waits, IsFirstSpent}

-- the end is the one that the record and what waits call for
abbrev pub EndsSo : {S : Type 0} → Rules S → (ℕ → Snapshot S) → ℕ → DriverState S → DriveEnd → Type 0
EndsSo rules start budget d ends.Rest = IsAtRest (machine_of rules) (record_in start d) × IsAllHeard d
EndsSo rules start budget d ends.Budget = Waits d × (budget ≤ handled (machine_of rules) (record_in start d))
EndsSo rules start budget d (ends.Exhausted p) = IsFirstSpent d.actors d.waiting p × (handled (machine_of rules) (record_in start d) < budget)
