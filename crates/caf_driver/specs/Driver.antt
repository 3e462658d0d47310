-- A run on one thread between two batches, and what holds of its record.
use Rattle.std.specs.Prelude.{◌≡◌, ◌≢◌, ℕ, ◌+◌, ◌-◌, ◌<◌, ◌==◌, ◌&&◌, ◌⊎◌, min, max, nat_lt, Bool, true, if◌then◌else◌, List, [], ◌∷◌, ◌++◌, length, map, slice_get, slice_index_or, Some}
use Rattle.std.specs.List.{list_any}
use Rattle.caf_types.specs.Limits.{latest_stamp}
use Rattle.caf_message.specs.declared.envelope.Taken.{Taken}
use Rattle.caf_message.specs.Envelope.{outside, start_envelope}
use Rattle.caf_message.specs.Outside.{outside_envelope}
use Rattle.caf_actor.specs.declared.journal.TakenBatch.{TakenBatch}
use Rattle.caf_actor.specs.declared.snapshot.Snapshot.{Snapshot}
use Rattle.caf_actor.specs.Actor.{ActorState}
use Rattle.caf_actor.specs.Record.{Machine, Kept, machine_of, ends, heard, joined, latest, when, untaken, IsLegal, cut_in}
use Rattle.caf_actor.specs.Rules.{Rules}
use Rattle.caf_actor.specs.Run.{State, Step, opening_state, IsRun, run, batches_of}
use Rattle.caf_record.specs.RunRecord.{journal_at, kept_from}

pub record DriverState (S : Type 0) : Type 0 where
  -- by place
  pub actors : List (ActorState S)
  -- what waits to be taken, by sender and receiver: what was posted, and the notices that were played
  pub waiting : ℕ → ℕ → List Taken
  -- how many notices were played: Start, then ticks, then Stop
  pub spoken : ℕ
  -- Stop was played
  pub has_stopped : Bool
  -- memory was wanted
  pub is_broken : Bool

-- ---- its record

abbrev pub journals_of : {S : Type 0} → DriverState S → List (List TakenBatch)
journals_of d = map (λ a. a.journal) d.actors

-- where a place stands; a number that is no place stands as it began
abbrev pub snapshot_in : {S : Type 0} → (ℕ → Snapshot S) → DriverState S → ℕ → Snapshot S
snapshot_in start d p = slice_index_or (map (λ a. a.snapshot) d.actors) p (start p)

-- what its actors took, from these snapshots on
abbrev pub record_in : {S : Type 0} → (ℕ → Snapshot S) → DriverState S → Kept (Snapshot S)
record_in start d = kept_from start (journals_of d) (cut_in (journal_at (journals_of d) 0))

-- how many ticks were played
abbrev pub ticks_in : {S : Type 0} → DriverState S → ℕ
ticks_in d = if d.has_stopped then d.spoken - 2 else d.spoken - 1

-- ---- the run

-- to the machine Start waits from the first, also before it was played
abbrev pub unsaid : {S : Type 0} → DriverState S → ℕ → ℕ → List Taken
unsaid d a b = when (((outside == a) && (0 == b)) && (d.spoken == 0)) (start_envelope ∷ [])

-- the machine stands where the driver stands
pub record StandsAs {S : Type 0} (start : ℕ → Snapshot S) (d : DriverState S) (s : State (Snapshot S)) : Type 0 where
  pub snapshots : (p : ℕ) → s.snapshot p ≡ snapshot_in start d p
  pub waiting : (a b : ℕ) → s.waiting a b ≡ unsaid d a b ++ d.waiting a b
  pub spoken : s.spoken ≡ max 1 d.spoken

-- the envelopes that left a place's lists were counted
pub record HasCounted {S : Type 0} (first : Snapshot S) (m : Machine (Snapshot S)) (a : ActorState S) : Type 0 where
  pub left : ℕ
  pub all : m.cached_in first + length (joined a.journal) ≡ left + m.cached_in a.snapshot
  pub counted : a.handled ≡ min left 18446744073709551615

-- the driver stands where a run leads that began with these snapshots, and its journals are what the run took
pub record IsDriven {S : Type 0} (rules : Rules S) (start : ℕ → Snapshot S) (d : DriverState S) : Type 0 where
  pub steps : List Step
  pub possible : IsRun (machine_of rules) (ticks_in d) (opening_state (length (journals_of d)) start) steps
  pub stands : StandsAs start d (run (machine_of rules) (ticks_in d) (opening_state (length (journals_of d)) start) steps)
  pub journals : (p : ℕ) → batches_of p steps ≡ journal_at (journals_of d) p
  pub counted : (p : ℕ) (a : ActorState S) → slice_get d.actors p ≡ Some a → HasCounted (start p) (machine_of rules) a

-- ---- what holds of the record

-- all notices that were played were taken
abbrev pub IsAllHeard : {S : Type 0} → DriverState S → Type 0
IsAllHeard d = length (heard (journal_at (journals_of d) 0)) + 1 ≡ d.spoken

-- the tick or Stop that was played and not taken, which no record shows
abbrev pub unheard : {S : Type 0} → Rules S → (ℕ → Snapshot S) → DriverState S → List Taken
unheard rules start d =
    if nat_lt (length (heard (journal_at (journals_of d) 0)) + 1) d.spoken
    then outside_envelope (ticks_in d) (d.spoken - 1) (latest (machine_of rules) (length (journals_of d)) (ends (machine_of rules) (record_in start d))) ∷ []
    else []

-- the record is legal, the actors stand where it ends, and what waits is what it has untaken
pub record HasLegalRecord {S : Type 0} (rules : Rules S) (start : ℕ → Snapshot S) (d : DriverState S) : Type 0 where
  pub legal : IsLegal (machine_of rules) (ticks_in d) (record_in start d)
  pub snapshots : (p : ℕ) → snapshot_in start d p ≡ ends (machine_of rules) (record_in start d) p
  pub waiting : (a b : ℕ) → unsaid d a b ++ d.waiting a b ≡ untaken (machine_of rules) (record_in start d) a b ++ when ((outside == a) && (0 == b)) (unheard rules start d)

-- ---- its ends

-- something waits to be taken
abbrev pub Waits : {S : Type 0} → DriverState S → Type 0
Waits d = (a : ℕ) × (b : ℕ) × (d.waiting a b ≢ [])

-- the place has something to take, and the last stamp, or what waits for it has
pub record IsSpent {S : Type 0} (actors : List (ActorState S)) (waiting : ℕ → ℕ → List Taken) (p : ℕ) : Type 0 where
  pub actor : ActorState S
  pub at : slice_get actors p ≡ Some actor
  pub waits : (a : ℕ) × (waiting a p ≢ [])
  pub last : (actor.snapshot.stamp ≡ latest_stamp) ⊎ ((a : ℕ) × (list_any (λ e. e.stamp == latest_stamp) (waiting a p) ≡ true))

-- the least such place
pub record IsFirstSpent {S : Type 0} (actors : List (ActorState S)) (waiting : ℕ → ℕ → List Taken) (p : ℕ) : Type 0 where
  pub spent : IsSpent actors waiting p
  pub first : (q : ℕ) → q < p → IsSpent actors waiting q → ⊥
