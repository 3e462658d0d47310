-- The types of a table in the order in which they were added, and the maps that find them.
use Rattle.std.specs.Prelude.{◌≡◌, ℕ, ◌+◌, List, [], ◌∷◌, map, Option, Some}
use Rattle.caf_types.specs.Table.{Named}
use Rattle.caf_types.specs.Shape.{entry_view}
use Rattle.caf_types.specs.declared.listed.Listed.{Listed}

-- what contracts see of a table
pub record Listing : Type 0 where
  pub types : List Listed
  pub blocks : List (List ℕ)

abbrev pub type_of : Listed → ℕ × Named
type_of l = (l.id, entry_view l.entry)

abbrev pub types_of : List Listed → List (ℕ × Named)
types_of ls = map type_of ls

-- the maps have each type's position under its ID and under its name, where the first stands at this position;
-- so IDs and names differ
abbrev pub AreFiled : ℕ → List (ℕ × Named) → (ℕ → Option ℕ) → (List ℕ → Option ℕ) → Type 0
AreFiled from [] ids names = Unit {0}
AreFiled from (t ∷ ts) ids names = (ids t.0 ≡ Some from) × (names t.1.name ≡ Some from) × AreFiled (from + 1) ts ids names
