-- What stands in a message: the number of elements, their type IDs, and their spellings.
use Rattle.std.specs.Prelude.{◌≡◌, ℕ, List, [], ◌∷◌, ◌++◌, length, take}
use Rattle.caf_words.specs.Datum.{Data, count}
use Rattle.caf_words.specs.Spelling.{spellings}

-- the content of elements with these IDs and values
abbrev pub content_of : List ℕ → Data → List ℕ
content_of ids values = length ids ∷ (ids ++ spellings values)

-- the IDs that stand in a content
abbrev pub ids_in : List ℕ → List ℕ
ids_in [] = []
ids_in (n ∷ words) = take n words

-- the words are the content of some elements: as many values as IDs
pub record IsContent (words : List ℕ) : Type 0 where
  pub ids : List ℕ
  pub values : Data
  pub one_each : count values ≡ length ids
  pub words_are : words ≡ content_of ids values
