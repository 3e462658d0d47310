-- A message that is being built.
use Rattle.std.specs.Prelude.{◌≡◌, ℕ, List, ◌∷◌, ◌++◌, length, Option}
use Rattle.caf_types.specs.ShapeTree.{ShapeTree}
use Rattle.caf_words.specs.Datum.{Datum, data_of}
use Rattle.caf_words.specs.Spelling.{spellings}
use Rattle.caf_message.specs.Fits.{AreValues, HaveShapes}

-- the IDs so far, and the spellings of the elements so far
pub record Built : Type 0 where
  pub ids : List ℕ
  pub words : List ℕ

-- the content that it would have
abbrev pub built_content : Built → List ℕ
built_content b = length b.ids ∷ (b.ids ++ b.words)

-- the words spell as many values as there are IDs
pub record IsBuilt (b : Built) : Type 0 where
  pub values : List Datum
  pub one_each : length values ≡ length b.ids
  pub words_are : b.words ≡ spellings (data_of values)

-- the words spell values of the shapes that the IDs have
pub record BuiltFits (shape_of : ℕ → Option ShapeTree) (b : Built) : Type 0 where
  pub values : List Datum
  pub shapes : List ShapeTree
  pub have_shapes : HaveShapes shape_of b.ids shapes
  pub are_values : AreValues shapes (data_of values)
  pub words_are : b.words ≡ spellings (data_of values)
