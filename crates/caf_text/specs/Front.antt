-- How far an input goes on as the text of some value of a shape.
use Rattle.std.specs.Prelude.{ℕ, ◌≤◌, List, ◌++◌, length, take}
use Rattle.caf_types.specs.ShapeTree.{ShapeTree}
use Rattle.caf_words.specs.Datum.{Datum}
use Rattle.caf_text.specs.TextForm.{HasText}

-- the bytes are the front of the text form of some value of the shape
abbrev pub IsFront : ShapeTree → List ℕ → Type 0
IsFront f front = (d : Datum) × (more : List ℕ) × HasText f d (front ++ more)

-- n is the length of the longest front of the input that is the front of some text form of the shape
pub record IsLongestFront (f : ShapeTree) (input : List ℕ) (n : ℕ) : Type 0 where
  pub within : n ≤ length input
  pub front : IsFront f (take n input)
  pub longest : (m : ℕ) → m ≤ length input → IsFront f (take m input) → m ≤ n
