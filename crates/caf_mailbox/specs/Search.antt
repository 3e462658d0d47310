-- An item by its place.
use Rattle.std.specs.Prelude.{ℕ, List, Option, remove, slice_get}
use Rattle.std.specs.Option.{option_map}

-- the item at a place, and the others in their order
abbrev pub taken_at : {A : Type 0} → List A → ℕ → Option (A × List A)
taken_at xs place = option_map (λ x. (x, remove xs place)) (slice_get xs place)
