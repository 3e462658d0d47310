-- The merge of a stored record: all its batches by stamp, then by place.
use Rattle.std.specs.Prelude.{ℕ, ◌+◌, ◌<◌, List, [], ◌∷◌, ◌++◌, map, slice_get, Option, option_map}
use Rattle.std.specs.List.{AllByRecursion, filter_map}
use Rattle.std.specs.Ordering.{nat_cmp, ordering_then}
use Rattle.std.specs.declared.cmp.Ordering.{Ordering}
use Rattle.caf_actor.specs.declared.journal.TakenBatch.{TakenBatch}
use Rattle.caf_actor.specs.Record.{Machine, IsLegal}
use Rattle.caf_actor.specs.Run.{Turn}
use Rattle.caf_actor.specs.Merge.{IsMerge}
use Rattle.caf_record.specs.declared.run_record.RunRecord.{RunRecord}
use Rattle.caf_record.specs.RunRecord.{journal_at, record_of}
use Rattle.caf_record.specs.InOrder.{in_order}

-- ---- the batches

-- a batch with its place, and which one of that place it is
pub record Entry : Type 0 where
  pub turn : Turn
  pub number : ℕ

-- those of a place, the first with number `n`
abbrev pub numbered : ℕ → ℕ → List TakenBatch → List Entry
numbered place n [] = []
numbered place n (b ∷ bs) = record { turn = record { place = place; batch = b }; number = n } ∷ numbered place (n + 1) bs

-- those of all places, the first of which is `place`
abbrev pub entries_from : ℕ → List (List TakenBatch) → List Entry
entries_from place [] = []
entries_from place (journal ∷ journals) = numbered place 0 journal ++ entries_from (place + 1) journals

-- ---- their order

-- by stamp, then by place, then by number
abbrev pub merge_order : Entry → Entry → Ordering
merge_order a b =
    ordering_then (nat_cmp a.turn.batch.stamp b.turn.batch.stamp)
    (ordering_then (nat_cmp a.turn.place b.turn.place) (nat_cmp a.number b.number))

abbrev pub merged : List (List TakenBatch) → List Entry
merged journals = in_order merge_order (entries_from 0 journals)

-- place and number of each batch
abbrev pub merge_of : RunRecord → List (ℕ × ℕ)
merge_of kept = map (λ e. (e.turn.place, e.number)) (merged kept.journals)

-- ---- as turns of the machine

abbrev pub turns_of : RunRecord → List Turn
turns_of kept = map (λ e. e.turn) (merged kept.journals)

-- the batch with this place and number
abbrev pub turn_at : RunRecord → ℕ × ℕ → Option Turn
turn_at kept at = option_map (λ b. record { place = at.0; batch = b }) (slice_get (journal_at kept.journals at.0) at.1)

-- those that a list names
abbrev pub turns_at : RunRecord → List (ℕ × ℕ) → List Turn
turns_at kept list = filter_map (turn_at kept) list

-- ---- records whose stamps rise, as those of each legal record do

-- each batch has a lesser stamp than all later ones
abbrev pub StampsRise : List TakenBatch → Type 0
StampsRise [] = Unit {0}
StampsRise (b ∷ bs) = AllByRecursion (λ c. b.stamp < c.stamp) bs × StampsRise bs

-- at each place
abbrev pub HasRisingStamps : RunRecord → Type 0
HasRisingStamps kept = AllByRecursion StampsRise kept.journals

-- whatever its places began with, the turns are the merge of the record
abbrev pub AreItsMerge : RunRecord → List Turn → Type 0
AreItsMerge kept ts = IsMerge (record_of {S = Unit {0}} (λ place. tt {0}) kept) ts

-- ---- what is said of it

-- where a stored record, with its start snapshots, is legal, its turns are the merge that a run is made of
abbrev pub LegalIsMerged : {S : Type 0} → Machine S → Type 0
LegalIsMerged {S} m = (ticks : ℕ) (start : ℕ → S) (kept : RunRecord) → IsLegal m ticks (record_of start kept) → IsMerge (record_of start kept) (turns_of kept)
