-- The text of a reply's values.
use Rattle.std.specs.Prelude.{◌≡◌, ℕ, true, List, [], ◌∷◌, ◌++◌, Option, Some, None, Result, Ok, Err}
use Rattle.caf_types.specs.ShapeTree.{ShapeTree}
use Rattle.caf_types.specs.Table.{Table, shape_at}
use Rattle.caf_text.specs.TextForm.{text_form}
use Rattle.caf_words.specs.Datum.{Datum, Data, more, fits}
use Rattle.caf_words.specs.Several.{several_fit, shapes_at, whole_reading}

-- the text form of a value of this shape
abbrev pub form_at : Option ShapeTree → Datum → List ℕ
form_at (Some shape) value = text_form shape value
form_at None value = []

-- a space and the text form of each value; the types have these IDs
abbrev pub forms : Table → List ℕ → Data → List ℕ
forms table (id ∷ ids) (more value values) = 32 ∷ (form_at (shape_at table id) value ++ forms table ids values)
forms table ids values = []

abbrev pub forms_read : Table → List ℕ → Result Data ℕ → List ℕ
forms_read table ids (Ok values) = forms table ids values
forms_read table ids (Err left) = []

-- a space and the text form of each value of these types that the words spell; nothing where they spell none
abbrev pub values_text : Table → List ℕ → List ℕ → List ℕ
values_text table ids words = forms_read table ids (whole_reading table ids words)

abbrev pub AreOfShapes : Option (List ShapeTree) → Data → Type 0
AreOfShapes (Some shapes) values = several_fit shapes values ≡ true
AreOfShapes None values = ⊥

-- one value of each type, all of which the table has
abbrev pub AreOfTypes : Table → List ℕ → Data → Type 0
AreOfTypes table ids values = AreOfShapes (shapes_at table ids) values

abbrev pub IsOfShape : Option ShapeTree → Datum → Type 0
IsOfShape (Some shape) value = fits shape value ≡ true
IsOfShape None value = ⊥
