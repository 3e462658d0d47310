-- One batch that is named from outside.
use Rattle.std.specs.Prelude.{◌≡◌, ℕ, ◌<◌, true, List, slice_get, slice_set, Some}
use Rattle.caf_types.specs.Limits.{latest_stamp}
use Rattle.caf_message.specs.declared.envelope.Taken.{Taken}
use Rattle.caf_actor.specs.Actor.{ActorState}
use Rattle.caf_actor.specs.Drain.{stamp_due}
use Rattle.caf_actor.specs.Rules.{Rules}
use Rattle.caf_driver.specs.declared.sender_run.SenderRun.{SenderRun}
use Rattle.caf_driver.specs.Mail.{Waiting, waiting_in}
use Rattle.caf_driver.specs.Delivery.{HasTakenOut}
use Rattle.caf_driver.specs.Population.{PopulationSeen, HasPlayed, HasTaken}
use Rattle.caf_driver.specs.Driver.{DriverState}
use Rattle.caf_driver.specs.Runs.{taken_by_runs, is_batch}

-- what the runs take of what waits for the place
abbrev pub batch_by : (ℕ → ℕ → List Taken) → ℕ → List SenderRun → List Taken
batch_by waiting place runs = taken_by_runs (λ a. waiting a place) runs

-- the runs name a batch of next envelopes, and neither the place nor one of them has the last stamp
pub record MayStep {S : Type 0} (actors : List (ActorState S)) (waiting : ℕ → ℕ → List Taken) (place : ℕ) (runs : List SenderRun) : Type 0 where
  pub actor : ActorState S
  pub at : slice_get actors place ≡ Some actor
  pub early : actor.snapshot.stamp < latest_stamp
  pub batch : is_batch (λ a. waiting a place) runs ≡ true

-- the same of all actors with what waits for them
pub record HasTakenRuns {S : Type 0} (rules : Rules S) (place : ℕ) (runs : List SenderRun) (stamp : ℕ) (old new : PopulationSeen S) : Type 0 where
  pub may : MayStep old.actors (waiting_in old.mail) place runs
  pub left : Waiting
  pub out : HasTakenOut old.mail place (batch_by (waiting_in old.mail) place runs) left
  pub taken : HasTaken rules place (batch_by (waiting_in old.mail) place runs) (record old { mail = left }) new
  pub due : stamp ≡ stamp_due may.actor.snapshot.stamp (batch_by (waiting_in old.mail) place runs)

-- the place took that batch at this stamp, and nothing was played
pub record HasStepped {S : Type 0} (rules : Rules S) (place : ℕ) (runs : List SenderRun) (stamp : ℕ) (old new : DriverState S) : Type 0 where
  pub may : MayStep old.actors old.waiting place runs
  pub after : ActorState S
  pub actors : new.actors ≡ slice_set old.actors place after
  pub played : HasPlayed rules (batch_by old.waiting place runs) may.actor after
  pub due : stamp ≡ stamp_due may.actor.snapshot.stamp (batch_by old.waiting place runs)
  pub spoken : new.spoken ≡ old.spoken
  pub stopped : new.has_stopped ≡ old.has_stopped
