-- When a text is refused.
use Rattle.std.specs.Prelude.{ℕ, List}
use Rattle.caf_types.specs.ShapeTree.{ShapeTree}
use Rattle.caf_words.specs.Datum.{Datum}
use Rattle.caf_text.specs.TextForm.{HasText}
use Rattle.caf_text.specs.Front.{IsLongestFront}
use Rattle.caf_text.specs.declared.text_fault.TextFault.{TextFault}
use Rattle.caf_text.specs.declared.text_fault.TextFault.TheVariants as faults

-- the input is no value's text form, and goes on as one for so many bytes; want of memory has no cause
abbrev pub IsNoForm : TextFault → ShapeTree → List ℕ → Type 0
IsNoForm faults.Memory f input = Unit {0}
IsNoForm (faults.At n) f input = IsLongestFront f input n × ((d : Datum) → HasText f d input → ⊥)
