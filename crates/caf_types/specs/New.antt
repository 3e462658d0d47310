-- Types that can be added to a table: none has an ID or a name of the table, or of one before it.
use Rattle.std.specs.Prelude.{◌≡◌, ℕ, false, List, [], ◌∷◌, ◌++◌}
use Rattle.caf_types.specs.Table.{Named, has_id, has_name}

abbrev pub AreNew : List (ℕ × Named) → List (ℕ × Named) → Type 0
AreNew ts [] = Unit {0}
AreNew ts (u ∷ us) = (has_id ts u.0 ≡ false) × (has_name ts u.1.name ≡ false) × AreNew (ts ++ u ∷ []) us
