-- How a driver begins, and what may be played.
use Rattle.std.specs.Prelude.{◌≡◌, ℕ, ◌+◌, ◌<◌, ◌==◌, ◌&&◌, ◌⊎◌, Bool, true, false, if◌then◌else◌, List, [], ◌∷◌, ◌++◌, length, slice_get, Some}
use Rattle.caf_types.specs.declared.notice.Notice.{Notice}
use Rattle.caf_types.specs.declared.notice.Notice.TheVariants as notice
use Rattle.caf_message.specs.Envelope.{outside}
use Rattle.caf_message.specs.Outside.{tick, outside_envelope}
use Rattle.caf_actor.specs.declared.snapshot.Snapshot.{Snapshot}
use Rattle.caf_actor.specs.Actor.{ActorState}
use Rattle.caf_actor.specs.Record.{when}
use Rattle.caf_actor.specs.Rules.{Rules, IsTarget}
use Rattle.caf_driver.specs.Population.{greatest_of}
use Rattle.caf_driver.specs.Driver.{DriverState, ticks_in}

-- ---- at first

-- the actor of the place took nothing, isn't broken, and sends to places alone
pub record IsFresh {S : Type 0} (rules : Rules S) (n p : ℕ) (a : ActorState S) : Type 0 where
  pub journal : a.journal ≡ []
  pub whole : a.is_broken ≡ false
  pub place : a.snapshot.place ≡ p
  pub targets : (q : ℕ) → IsTarget rules a.snapshot.behavior q → q < n

abbrev pub AreFresh : {S : Type 0} → Rules S → List (ActorState S) → Type 0
AreFresh {S} rules actors = (p : ℕ) (a : ActorState S) → slice_get actors p ≡ Some a → IsFresh rules (length actors) p a

-- nothing was played yet
abbrev pub opening : {S : Type 0} → List (ActorState S) → DriverState S
opening actors = record { actors = actors; waiting = λ a b. []; spoken = 0; has_stopped = false; is_broken = false }

-- the actors stand at these snapshots
abbrev pub StartsAt : {S : Type 0} → (ℕ → Snapshot S) → List (ActorState S) → Type 0
StartsAt {S} start actors = (p : ℕ) (a : ActorState S) → slice_get actors p ≡ Some a → a.snapshot ≡ start p

-- ---- what may be played

abbrev pub MayPlay : {S : Type 0} → DriverState S → Notice → Type 0
MayPlay d what =
    ((what ≡ notice.Start) × (d.spoken ≡ 0))
    ⊎ (((what ≡ tick) ⊎ (what ≡ notice.Stop)) × ((0 < d.spoken) × ((d.has_stopped ≡ false) × ((a b : ℕ) → d.waiting a b ≡ []))))

abbrev pub is_stop_notice : Notice → Bool
is_stop_notice notice.Stop = true
is_stop_notice _ = false

-- the notice waits for place 0, with this stamp
pub record HasSpoken {S : Type 0} (old : DriverState S) (what : Notice) (stamp : ℕ) (new : DriverState S) : Type 0 where
  pub actors : new.actors ≡ old.actors
  pub spoken : new.spoken ≡ old.spoken + 1
  pub stopped : new.has_stopped ≡ is_stop_notice what
  pub waiting : (a b : ℕ) → new.waiting a b ≡ old.waiting a b ++ when ((outside == a) && (0 == b)) (outside_envelope (ticks_in new) old.spoken stamp ∷ [])

-- Start has the stamp 0, and each later notice the greatest stamp of the actors
abbrev pub stamp_due : {S : Type 0} → ℕ → List (ActorState S) → ℕ
stamp_due spoken actors = if spoken == 0 then 0 else greatest_of actors
