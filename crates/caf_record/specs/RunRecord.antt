-- A stored record with the snapshots that its places began with, as the definitions see a record. The
-- driver and the threaded run speak of their records by these.
use Rattle.std.specs.Prelude.{◌≡◌, ℕ, ◌<◌, List, [], length, slice_get, slice_index_or, Option, Some}
use Rattle.caf_actor.specs.declared.journal.TakenBatch.{TakenBatch}
use Rattle.caf_actor.specs.Record.{Machine, Kept}
use Rattle.caf_record.specs.declared.run_record.RunRecord.{RunRecord}

-- what a place took; a number that is no place took nothing
abbrev pub journal_at : List (List TakenBatch) → ℕ → List TakenBatch
journal_at journals place = slice_index_or journals place []

-- as many places as journals
abbrev pub kept_from : {S : Type 0} → (ℕ → S) → List (List TakenBatch) → Option ℕ → Kept S
kept_from start journals cut = record {
  places = length journals;
  start = start;
  journal = journal_at journals;
  cut = cut;
}

abbrev pub record_of : {S : Type 0} → (ℕ → S) → RunRecord → Kept S
record_of start kept = kept_from start kept.journals kept.cut

-- the stored stamps are those of the snapshots that the places began with
pub record HasStarts {S : Type 0} (m : Machine S) (start : ℕ → S) (kept : RunRecord) : Type 0 where
  pub count : length kept.starts ≡ length kept.journals
  pub stamps : (place : ℕ) → place < length kept.journals → slice_get kept.starts place ≡ Some (m.stamp_of (start place))
