-- What holds of a driver of scripted actors, by how far its run is.
use Rattle.std.specs.Prelude.{◌≡◌, ℕ, ◌<◌, true, false, []}
use Rattle.caf_actor.specs.declared.snapshot.Snapshot.{Snapshot}
use Rattle.caf_driver.specs.Driver.{DriverState, IsDriven}
use Rattle.caf_scripted.specs.declared.scripted.Scripted.{Scripted}
use Rattle.caf_scripted.specs.Scripted.{scripted_rules}
use Rattle.caf_staged.specs.declared.phase.Phase.{Phase}
use Rattle.caf_staged.specs.Phase.{is_whole, is_fresh, is_going, is_open, is_resting}

-- it stands where a run leads, from some snapshots on
abbrev pub StandsSomewhere : DriverState Scripted → Type 0
StandsSomewhere d = (start : ℕ → Snapshot Scripted) × IsDriven scripted_rules start d

pub record IsSoFar (p : Phase) (d : DriverState Scripted) : Type 0 where
  pub stands : is_whole p ≡ true → StandsSomewhere d
  pub fresh : is_fresh p ≡ true → d.spoken ≡ 0
  pub going : is_going p ≡ true → 0 < d.spoken
  pub unstopped : is_open p ≡ true → d.has_stopped ≡ false
  pub resting : is_resting p ≡ true → (a b : ℕ) → d.waiting a b ≡ []
