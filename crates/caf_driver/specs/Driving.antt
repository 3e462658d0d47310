-- What a driver keeps between two batches.
use Rattle.std.specs.Prelude.{◌≡◌, ◌≢◌, ℕ, ◌+◌, ◌-◌, ◌<◌, ◌≤◌, min, Bool, true, List, [], ◌∷◌, length, slice_get, Some}
use Rattle.std.specs.List.{AllByRecursion}
use Rattle.caf_types.specs.Limits.{places, latest_stamp}
use Rattle.caf_message.specs.declared.envelope.Taken.{Taken}
use Rattle.caf_message.specs.Entries.{TableEntries}
use Rattle.caf_message.specs.Envelope.{outside}
use Rattle.caf_actor.specs.Actor.{ActorState}
use Rattle.caf_actor.specs.Record.{machine_of}
use Rattle.caf_actor.specs.Rules.{Rules}
use Rattle.caf_driver.specs.declared.drive.DriveEnd.{DriveEnd}
use Rattle.caf_driver.specs.declared.drive.DriveEnd.TheVariants as ends
use Rattle.caf_driver.specs.Mail.{Waiting, waiting_in}
use Rattle.caf_driver.specs.Delivery.{HasTakenOut}
use Rattle.caf_driver.specs.Population.{PopulationSeen, IsPopulation, HasTaken, handled_by}
use Rattle.caf_driver.specs.Driver.{DriverState, Waits, IsSpent, IsFirstSpent}

-- what contracts see of a driver: a state of the run, with what waits as lists
pub record DriverSeen (S : Type 0) : Type 0 where
  pub actors : List (ActorState S)
  pub mail : Waiting
  pub spoken : ℕ
  pub has_stopped : Bool
  pub is_broken : Bool

abbrev pub state_of : {S : Type 0} → DriverSeen S → DriverState S
state_of d = record { actors = d.actors; waiting = waiting_in d.mail; spoken = d.spoken; has_stopped = d.has_stopped; is_broken = d.is_broken }

-- the population stands, and there were no more notices than stamps
pub record IsDriving {S : Type 0} (valid : S → Type 0) (rules : Rules S) (entries : TableEntries) (p : PopulationSeen S) (spoken : ℕ) : Type 0 where
  pub population : IsPopulation valid rules entries p
  -- before Start nothing waits
  pub silent : spoken ≡ 0 → (a b : ℕ) → waiting_in p.mail a b ≡ []
  pub heard : waiting_in p.mail outside 0 ≡ [] → spoken ≤ p.latest
  pub notices : AllByRecursion (λ e. spoken ≤ e.stamp + 1) (waiting_in p.mail outside 0)

-- what the callers of a driver's private functions know of its actors
pub record IsSettled {S : Type 0} (rules : Rules S) (d : DriverState S) : Type 0 where
  pub few : length d.actors ≤ places
  pub idle : (p : ℕ) (a : ActorState S) → slice_get d.actors p ≡ Some a → (machine_of rules).is_idle a.snapshot ≡ true

-- how many stamps the places have left
abbrev pub room_of : {S : Type 0} → List (ActorState S) → ℕ
room_of [] = 0
room_of (a ∷ others) = (latest_stamp - a.snapshot.stamp) + room_of others

-- an end, as the driver sees it
abbrev pub EndsNow : {S : Type 0} → ℕ → DriverState S → DriveEnd → Type 0
EndsNow budget d ends.Rest = (a b : ℕ) → d.waiting a b ≡ []
EndsNow budget d ends.Budget = Waits d × (budget ≤ min (handled_by d.actors) 18446744073709551615)
EndsNow budget d (ends.Exhausted p) = IsFirstSpent d.actors d.waiting p × (min (handled_by d.actors) 18446744073709551615 < budget)

-- something waits, and nothing that waits is spent
pub record GoesOn {S : Type 0} (d : DriverState S) : Type 0 where
  pub waits : Waits d
  pub fresh : (p : ℕ) → IsSpent d.actors d.waiting p → ⊥

-- ---- a turn

-- a place took a batch of what waited for it
pub record HasTurned {S : Type 0} (rules : Rules S) (old new : PopulationSeen S) : Type 0 where
  pub place : ℕ
  pub batch : List Taken
  pub left : Waiting
  pub out : HasTakenOut old.mail place batch left
  pub filled : batch ≢ []
  pub taken : HasTaken rules place batch (record old { mail = left }) new
