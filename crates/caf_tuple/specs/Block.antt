-- The rule of a block, which holds between any two atomic steps, whatever threads hold references.
-- The first word of the table counts the references. The words behind it are the payload.
use Rattle.std.specs.Prelude.{◌≡◌, ◌≢◌, ℕ, zero, suc, ◌+◌, ◌<◌, ◌≤◌, true, List, ◌∷◌, drop, sum_by}
use mathlib.Core.Option.{some}
use lib.ListN.{get_elem?}
use Rattle.atomic_table.specs.Table.{State}
use Rattle.caf_steps.specs.Reference.{fresh}
use Rattle.caf_tuple.specs.declared.block.View.{View}

-- how many references a view has
abbrev pub refs_of : View → ℕ
refs_of v = v.refs

-- of a view with references, these and those that may yet come from them
abbrev pub weight_by : ℕ → ℕ → ℕ
weight_by zero room = 0
weight_by (suc n) room = suc n + room

abbrev pub weight_of : View → ℕ
weight_of v = weight_by v.refs v.seen.room

pub record TupleRule (s : State (Unit {0}) View) : Type 0 where
  pub payload : List ℕ
  -- the count is the sum of the references of all views
  pub words_are : s.words ≡ sum_by refs_of s.views ∷ payload
  -- each view with a reference has the payload as its content
  pub same : (id : ℕ) (v : View) → get_elem? s.views id ≡ some v → 0 < v.refs → v.seen.content ≡ payload
  -- a sole view has one reference, and no other view has any
  pub single : (id : ℕ) (v : View) → get_elem? s.views id ≡ some v → v.seen.sole ≡ true → v.refs ≡ 1
  pub alone : (id other : ℕ) (v w : View) → get_elem? s.views id ≡ some v → v.seen.sole ≡ true → other ≢ id → get_elem? s.views other ≡ some w → w.refs ≡ 0
  -- all references and those that may come are at most 2 ^ 62 + 1, so the count never wraps
  pub bounded : sum_by weight_of s.views ≤ 4611686018427387905

-- make: the view of the first seat at a table that begins with these words, the count of 1 first
abbrev pub first_view : List ℕ → View
first_view words = record { refs = 1; seen = fresh (drop 1 words) }
