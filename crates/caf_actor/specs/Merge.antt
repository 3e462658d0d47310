-- All batches of a record in one order, how that is a run, and what is said of both.
use Rattle.std.specs.Prelude.{◌≡◌, ◌≢◌, ℕ, ◌+◌, ◌≤◌, ◌<◌, ◌==◌, ◌&&◌, ◌⊎◌, if◌then◌else◌, List, [], ◌∷◌, None}
use Rattle.std.specs.List.{AllByRecursion}
use Rattle.caf_message.specs.declared.envelope.Taken.{Taken}
use Rattle.caf_message.specs.Envelope.{outside}
use Rattle.caf_message.specs.Outside.{outside_envelope}
use Rattle.caf_actor.specs.declared.journal.TakenBatch.{TakenBatch}
use Rattle.caf_actor.specs.Record.{Machine, Kept, IsLegal, holds_notice, taken_by}
use Rattle.caf_actor.specs.Run.{State, Turn, Step, Take, Speak, IsRun, run, opening_state, EndsAs, IsHeard, kept_of}

-- ---- the order

-- by stamp, then by place
abbrev pub ComesBefore : Turn → Turn → Type 0
ComesBefore t u = (t.batch.stamp < u.batch.stamp) ⊎ ((t.batch.stamp ≡ u.batch.stamp) × (t.place ≤ u.place))

-- each turn comes before all later ones
abbrev pub AreInOrder : List Turn → Type 0
AreInOrder [] = Unit {0}
AreInOrder (t ∷ ts) = AllByRecursion (ComesBefore t) ts × AreInOrder ts

-- the batches of one place among the turns
abbrev pub batches_in : ℕ → List Turn → List TakenBatch
batches_in p [] = []
batches_in p (t ∷ ts) = if p == t.place then t.batch ∷ batches_in p ts else batches_in p ts

-- all batches of the record, those of a place in their order, by stamp, then by place
pub record IsMerge {S : Type 0} (k : Kept S) (ts : List Turn) : Type 0 where
  pub parts : (p : ℕ) → batches_in p ts ≡ k.journal p
  pub order : AreInOrder ts

-- ---- the steps

-- the outside sends its notice directly before the batch of place 0 that holds it
abbrev pub steps_of : List Turn → List Step
steps_of [] = []
steps_of (t ∷ ts) = if (0 == t.place) && holds_notice t.batch then Speak ∷ Take t ∷ steps_of ts else Take t ∷ steps_of ts

-- ---- what is said of them

-- a legal record's merge is a run that ends as the record does, with all taken that the outside sent
abbrev pub MergeIsARun : {S : Type 0} → Machine S → Type 0
MergeIsARun {S} m = (ticks : ℕ) (k : Kept S) (ts : List Turn) → IsLegal m ticks k → IsMerge k ts
    → IsRun m ticks (opening_state k.places k.start) (steps_of ts)
    × (EndsAs m k (run m ticks (opening_state k.places k.start) (steps_of ts))
    × IsHeard k (run m ticks (opening_state k.places k.start) (steps_of ts)))

-- and the record of this run is that record
abbrev pub MergeHasTheRecord : {S : Type 0} → Machine S → Type 0
MergeHasTheRecord {S} m = (ticks : ℕ) (k : Kept S) (ts : List Turn) → IsLegal m ticks k → IsMerge k ts → kept_of k.places k.start (steps_of ts) ≡ k

-- what the places take in a run is a legal record, which ends as the run does where all is taken that
-- the outside sent
abbrev pub RunIsLegal : {S : Type 0} → Machine S → Type 0
RunIsLegal {S} m = (ticks places : ℕ) (start : ℕ → S) (steps : List Step) → places ≤ outside → IsRun m ticks (opening_state places start) steps
    → IsLegal m ticks (kept_of places start steps)
    × (IsHeard (kept_of places start steps) (run m ticks (opening_state places start) steps)
    → EndsAs m (kept_of places start steps) (run m ticks (opening_state places start) steps))

-- ---- more ticks: until Stop, nothing depends on how many there will be

-- a legal record without Stop is legal for more ticks
abbrev pub RecordGoesOn : {S : Type 0} → Machine S → Type 0
RecordGoesOn {S} m = (ticks more : ℕ) (k : Kept S) → ticks ≤ more → k.cut ≡ None → IsLegal m ticks k → IsLegal m more k

-- a run in which Stop isn't sent is a run for more ticks, with the same end
abbrev pub RunGoesOn : {S : Type 0} → Machine S → Type 0
RunGoesOn {S} m = (ticks more : ℕ) (s : State S) (steps : List Step) → ticks ≤ more → IsRun m ticks s steps
    → (run m ticks s steps).spoken ≤ ticks + 1 → IsRun m more s steps × (run m more s steps ≡ run m ticks s steps)

-- ---- what the places hear of the outside

-- these are its envelopes from number `n` on, of any stamps
abbrev pub AreInTurn : ℕ → ℕ → List Taken → Type 0
AreInTurn ticks n [] = Unit {0}
AreInTurn ticks n (e ∷ es) = ((n ≤ ticks + 1) × (e ≡ outside_envelope ticks n e.stamp)) × AreInTurn ticks (n + 1) es

pub record HearsInTurn {S : Type 0} (ticks : ℕ) (k : Kept S) : Type 0 where
  pub first : AreInTurn ticks 0 (taken_by k outside 0)
  pub others : (p : ℕ) → 0 ≢ p → taken_by k outside p ≡ []

-- in a legal record place 0 takes a first part of Start, the ticks and Stop, and no other place any of them
abbrev pub OutsideInTurn : {S : Type 0} → Machine S → Type 0
OutsideInTurn {S} m = (ticks : ℕ) (k : Kept S) → IsLegal m ticks k → HearsInTurn ticks k
