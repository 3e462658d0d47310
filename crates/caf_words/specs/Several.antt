-- Values of several types, one after the other, as a message has them.
use Rattle.std.specs.Prelude.{◌≡◌, ℕ, Bool, List, [], ◌∷◌, ◌++◌, length, map, Option, Some, None, Result, Ok, Err}
use Rattle.caf_types.specs.ShapeTree.{ShapeTree}
use Rattle.caf_types.specs.Table.{Table, shape_at}
use Rattle.caf_types.specs.declared.shape.TypeId.{TypeId}
use Rattle.caf_words.specs.Datum.{Datum, Data, no_data, more, fits, is_none, on_first}
use Rattle.caf_words.specs.Reading.{Got, ◌>>=◌, then_more, reading}
use Rattle.caf_words.specs.Spelling.{Spells}

-- ---- several shapes

abbrev pub several_fit : List ShapeTree → Data → Bool
several_fit [] = is_none
several_fit (f ∷ fs) = on_first (fits f) (several_fit fs)

-- one value for each shape, and the words are their spellings joined
abbrev pub SeveralSpell : List ShapeTree → Data → List ℕ → Type 0
SeveralSpell [] ds ws = (ds ≡ no_data) × (ws ≡ [])
SeveralSpell (f ∷ fs) ds ws = (e : Datum) × (es : Data) × (ds ≡ more e es) × (a : List ℕ) × (b : List ℕ) × Spells f e a × SeveralSpell fs es b × (ws ≡ a ++ b)

abbrev pub several : List ShapeTree → List ℕ → Got Data
several [] ws = Ok (no_data, ws)
several (f ∷ fs) ws = then_more (reading f ws) (several fs)

-- ---- several types of a table

abbrev pub ids_of : List TypeId → List ℕ
ids_of ids = map (λ (id : TypeId). id.0) ids

abbrev pub joined : Option ShapeTree → Option (List ShapeTree) → Option (List ShapeTree)
joined None fs = None
joined (Some f) None = None
joined (Some f) (Some fs) = Some (f ∷ fs)

-- the shapes of the types with these IDs, where the table has them all
abbrev pub shapes_at : Table → List ℕ → Option (List ShapeTree)
shapes_at t [] = Some []
shapes_at t (id ∷ ids) = joined (shape_at t id) (shapes_at t ids)

abbrev pub ShapesSpell : Option (List ShapeTree) → Data → List ℕ → Type 0
ShapesSpell None ds ws = ⊥
ShapesSpell (Some fs) ds ws = SeveralSpell fs ds ws

-- the words are the joined spellings of the values, which are of these types
abbrev pub TypesSpell : Table → List ℕ → Data → List ℕ → Type 0
TypesSpell t ids ds ws = ShapesSpell (shapes_at t ids) ds ws

abbrev pub shapes_reading : Option (List ShapeTree) → List ℕ → Got Data
shapes_reading None ws = Err (length ws)
shapes_reading (Some fs) ws = several fs ws

-- no word follows the last value
abbrev pub ended : Data → List ℕ → Result Data ℕ
ended ds [] = Ok ds
ended ds (w ∷ ws) = Err (length (w ∷ ws))

-- the values that the words are the spellings of, or the number of words from the first fault on
abbrev pub whole_reading : Table → List ℕ → List ℕ → Result Data ℕ
whole_reading t ids ws = shapes_reading (shapes_at t ids) ws >>= λ x. ended x.0 x.1
