-- Where words and text fail to be the form of a value.
use Rattle.std.specs.Prelude.{◌≡◌, ℕ, ◌+◌, List, [], ◌∷◌, length, Err}
use Rattle.caf_types.specs.ShapeTree.{ShapeTree}
use Rattle.caf_types.specs.Table.{Table}
use Rattle.caf_words.specs.Several.{whole_reading}
use Rattle.caf_words.specs.declared.stop.SpellFault.{SpellFault}
use Rattle.caf_words.specs.declared.stop.SpellFault.TheVariants as spell
use Rattle.caf_text.specs.Front.{IsLongestFront}
use Rattle.caf_text.specs.declared.text_fault.TextFault.{TextFault}
use Rattle.caf_text.specs.declared.text_fault.TextFault.TheVariants as text
use Rattle.caf_events.specs.declared.fault.LoadFault.{LoadFault}
use Rattle.caf_events.specs.declared.fault.LoadFault.TheVariants as faults

-- the place of the first fault, in reading one value of the type from the words
abbrev pub WordsFailAt : Table → ℕ → List ℕ → List ℕ → Type 0
WordsFailAt t id ws path = (place : ℕ) × (left : ℕ) × (path ≡ place ∷ []) × (whole_reading t (id ∷ []) ws ≡ Err left) × (place + left ≡ length ws)

-- a place of the words as a path
abbrev pub Placed : SpellFault → LoadFault → Type 0
Placed fault faults.Memory = Unit {0}
Placed spell.Memory (faults.Unfit path) = ⊥
Placed (spell.At place) (faults.Unfit path) = path ≡ place ∷ []

-- the length of the longest front of the text that is the front of some text form of the shape
abbrev pub TextFailsAt : ShapeTree → List ℕ → List ℕ → Type 0
TextFailsAt f input path = (n : ℕ) × (path ≡ n ∷ []) × IsLongestFront f input n

-- a length in bytes as a path
abbrev pub AtLength : TextFault → LoadFault → Type 0
AtLength fault faults.Memory = Unit {0}
AtLength text.Memory (faults.Unfit path) = ⊥
AtLength (text.At n) (faults.Unfit path) = path ≡ n ∷ []
