-- How far a run is.
use Rattle.std.specs.Prelude.{Bool, true, false}
use Rattle.caf_driver.specs.declared.drive.DriveEnd.{DriveEnd}
use Rattle.caf_driver.specs.declared.drive.DriveEnd.TheVariants as ends
use Rattle.caf_staged.specs.declared.phase.Phase.{Phase}
use Rattle.caf_staged.specs.declared.phase.Phase.TheVariants as phase

-- memory wasn't wanted
abbrev pub is_whole : Phase → Bool
is_whole phase.Broken = false
is_whole _ = true

abbrev pub is_fresh : Phase → Bool
is_fresh phase.Fresh = true
is_fresh _ = false

-- Start was played
abbrev pub is_going : Phase → Bool
is_going phase.Going = true
is_going phase.Resting = true
is_going phase.Stopped = true
is_going _ = false

-- and Stop wasn't
abbrev pub is_open : Phase → Bool
is_open phase.Going = true
is_open phase.Resting = true
is_open _ = false

-- and nothing waits
abbrev pub is_resting : Phase → Bool
is_resting phase.Resting = true
is_resting _ = false

-- after a drive that ended so, where Stop wasn't played
abbrev pub phase_at : DriveEnd → Phase
phase_at ends.Rest = phase.Resting
phase_at ends.Budget = phase.Going
phase_at (ends.Exhausted place) = phase.Going

abbrev pub phase_after : Phase → DriveEnd → Phase
phase_after phase.Fresh end = phase_at end
phase_after phase.Going end = phase_at end
phase_after phase.Resting end = phase_at end
phase_after phase.Stopped end = phase.Stopped
phase_after phase.Broken end = phase_at end

-- after a batch that was named and taken
abbrev pub phase_stepped : Phase → Phase
phase_stepped phase.Fresh = phase.Fresh
phase_stepped phase.Going = phase.Going
phase_stepped phase.Resting = phase.Going
phase_stepped phase.Stopped = phase.Stopped
phase_stepped phase.Broken = phase.Broken
