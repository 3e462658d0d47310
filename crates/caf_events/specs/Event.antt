-- What a value is told as: its events, in order.
use Rattle.std.specs.Prelude.{ℕ, ℤ, Bool, List, [], ◌∷◌, ◌++◌}
use Rattle.caf_types.specs.ShapeTree as tree
use Rattle.caf_types.specs.ShapeTree.{ShapeTree, Parts, no_parts, part, count_parts}
use Rattle.caf_words.specs.Datum.{Datum, a_unit, a_flag, an_unsigned, a_signed, a_text, some_bytes, a_place, a_list, an_object, Data, no_data, more, count}

pub data Event : Type 0 where
  unit : Event
  flag : Bool → Event
  unsigned : ℕ → Event
  signed : ℤ → Event
  text : List ℕ → Event
  bytes : List ℕ → Event
  place : ℕ → Event
  -- a list with its length
  list : ℕ → Event
  -- an object with its number of fields
  object : ℕ → Event
  -- a field with its name
  field : List ℕ → Event

-- ---- the events of a value of a shape; nothing where it isn't of the shape

abbrev pub scalar_events : Datum → List Event
scalar_events a_unit = unit ∷ []
scalar_events (a_flag b) = flag b ∷ []
scalar_events (an_unsigned n) = unsigned n ∷ []
scalar_events (a_signed z) = signed z ∷ []
scalar_events (a_text bs) = text bs ∷ []
scalar_events (some_bytes bs) = bytes bs ∷ []
scalar_events (a_place n) = place n ∷ []
scalar_events _ = []

abbrev pub each_events : (Datum → List Event) → Data → List Event
each_events one no_data = []
each_events one (more d ds) = one d ++ each_events one ds

abbrev pub list_events : (Data → List Event) → Datum → List Event
list_events items (a_list ds) = list (count ds) ∷ items ds
list_events items _ = []

abbrev pub object_events : ℕ → (Data → List Event) → Datum → List Event
object_events n fields (an_object ds) = object n ∷ fields ds
object_events n fields _ = []

abbrev pub field_events : List ℕ → (Datum → List Event) → (Data → List Event) → Data → List Event
field_events name one others no_data = []
field_events name one others (more d ds) = field name ∷ (one d ++ others ds)

abbrev mutual
  pub events : ShapeTree → Datum → List Event
  events (tree.list f) = list_events (each_events (events f))
  events (tree.object ps) = object_events (count_parts ps) (part_events ps)
  events _ = scalar_events

  pub part_events : Parts → Data → List Event
  part_events no_parts ds = []
  part_events (part name f ps) ds = field_events name (events f) (part_events ps) ds
