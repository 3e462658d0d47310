-- The elements of a message, as the program holds them.
use Rattle.std.specs.Prelude.{◌≡◌, ℕ, List, map}
use Rattle.caf_types.specs.declared.shape.TypeId.{TypeId}
use Rattle.caf_words.specs.Datum.{Datum}
use Rattle.caf_words.specs.Several.{ids_of}
use Rattle.caf_words.specs.Value.{datum}
use Rattle.caf_words.specs.declared.value.Value.{Value}
use Rattle.caf_scenario.specs.declared.elements.Element.{Element}
use Rattle.caf_scenario.specs.Elements.{ids_in}

abbrev pub element_seen : Element → ℕ × Datum
element_seen e = (e.id.0, datum e.value)

abbrev pub data_in : List (ℕ × Datum) → List Datum
data_in es = map (λ (e : ℕ × Datum). e.1) es

-- the types and the values are those of the elements
pub record AreContents (types : List TypeId) (values : List Value) (elements : List (ℕ × Datum)) : Type 0 where
  pub ids_are : ids_of types ≡ ids_in elements
  pub data_are : map datum values ≡ data_in elements
