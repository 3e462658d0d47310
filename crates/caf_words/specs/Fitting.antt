-- For the law of a row, that its elements are of its shapes: a list's items, and several tests in a row.
use Rattle.std.specs.Prelude.{◌≡◌, ◌&&◌, Bool, true, false, List, [], ◌∷◌, map, refl}
use Rattle.caf_types.specs.ShapeTree.{ShapeTree, list}
use Rattle.caf_words.specs.Datum.{Datum, a_list, data_of, fits, all_fit}

-- both tests hold
pub both_hold : {a b : Bool} → a ≡ true → b ≡ true → (a && b) ≡ true
both_hold {a = true} p q = q
both_hold {a = false} p q = p

pub items_fit : {A : Type 0} (shape : ShapeTree) (means : A → Datum) → ((it : A) → fits shape (means it) ≡ true) → (items : List A) → all_fit (fits shape) (data_of (map means items)) ≡ true
items_fit shape means each [] = refl
items_fit shape means each (item ∷ items) = both_hold (each item) (items_fit shape means each items)

-- a list is of its shape where each of its items is
pub list_fits : {A : Type 0} (shape : ShapeTree) (means : A → Datum) → ((it : A) → fits shape (means it) ≡ true) → (items : List A) → fits (list shape) (a_list (data_of (map means items))) ≡ true
list_fits shape means each items = items_fit shape means each items
