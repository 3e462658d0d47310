-- The items of a list in an order: the slow program that says what a sort gives.
use Rattle.std.specs.Prelude.{List, [], ◌∷◌, if◌then◌else◌}
use Rattle.std.specs.Ordering.{is_lt}
use Rattle.std.specs.declared.cmp.Ordering.{Ordering}

-- the item stands before the first that isn't less
abbrev pub put : {A : Type 0} → (A → A → Ordering) → A → List A → List A
put order x [] = x ∷ []
put order x (y ∷ ys) = if is_lt (order y x) then y ∷ put order x ys else x ∷ y ∷ ys

-- each item in its place
abbrev pub in_order : {A : Type 0} → (A → A → Ordering) → List A → List A
in_order order [] = []
in_order order (x ∷ xs) = put order x (in_order order xs)
