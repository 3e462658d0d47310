-- What a content means where each ID has a shape, and which contents fit a table.
use Rattle.std.specs.Prelude.{◌≡◌, ℕ, List, map, Option, Some}
use Rattle.caf_types.specs.ShapeTree.{ShapeTree}
use Rattle.caf_types.specs.Table.{Table, shape_at}
use Rattle.caf_words.specs.Datum.{Data}
use Rattle.caf_words.specs.Spelling.{spellings}
use Rattle.caf_words.specs.Several.{SeveralSpell}
use Rattle.caf_message.specs.Content.{content_of}
use Rattle.caf_message.specs.Entries.{TableEntries, entry_shape}

-- one value of each shape
abbrev pub AreValues : List ShapeTree → Data → Type 0
AreValues shapes values = SeveralSpell shapes values (spellings values)

-- the IDs have these shapes
abbrev pub HaveShapes : (ℕ → Option ShapeTree) → List ℕ → List ShapeTree → Type 0
HaveShapes shape_of ids shapes = map shape_of ids ≡ map (λ (f : ShapeTree). Some f) shapes

-- the words are the content of these IDs and of values of their shapes
pub record Means (shape_of : ℕ → Option ShapeTree) (words ids : List ℕ) (values : Data) : Type 0 where
  pub shapes : List ShapeTree
  pub have_shapes : HaveShapes shape_of ids shapes
  pub are_values : AreValues shapes values
  pub words_are : words ≡ content_of ids values

-- the words mean some IDs and values
pub record Fits (shape_of : ℕ → Option ShapeTree) (words : List ℕ) : Type 0 where
  pub ids : List ℕ
  pub values : Data
  pub means : Means shape_of words ids values

abbrev pub FitsTable : Table → List ℕ → Type 0
FitsTable t words = Fits (shape_at t) words

abbrev pub FitsEntries : TableEntries → List ℕ → Type 0
FitsEntries entries words = Fits (entry_shape entries) words
