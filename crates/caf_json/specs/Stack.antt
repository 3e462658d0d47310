-- Building JSON from events, with the open arrays and objects on a stack.
use Rattle.std.specs.Prelude.{ℕ, zero, suc, List, [], ◌∷◌, ◌++◌}
use Rattle.hex.specs.Hex.{encode_lower}
use Rattle.serde_json.specs.Data.{unsigned, Data as Json, null, boolean, number, string, array, object, Items, no_items, item, Members, no_members, put}
use Rattle.serde_json.specs.Find.{of_integer}
use Rattle.serde_json.specs.View.{items_of}
use Rattle.caf_types.specs.ShapeTree as tree
use Rattle.caf_types.specs.ShapeTree.{ShapeTree, Parts, no_parts, part}
use Rattle.caf_words.specs.Datum.{Datum, a_flag, an_unsigned, a_signed, a_text, some_bytes, a_place, a_list, an_object, Data, no_data, more}
use Rattle.caf_events.specs.Event as event
use Rattle.caf_events.specs.Event.{Event}

-- ---- the form of a value, its members put in as they are declared

abbrev pub scalar_json : Datum → Json
scalar_json (a_flag b) = boolean b
scalar_json (an_unsigned n) = number (unsigned n)
scalar_json (a_signed z) = number (of_integer z)
scalar_json (a_text bs) = string bs
scalar_json (some_bytes bs) = string (encode_lower bs)
scalar_json (a_place n) = number (unsigned n)
scalar_json _ = null

abbrev pub each_json : (Datum → Json) → Data → Items
each_json one no_data = no_items
each_json one (more d ds) = item (one d) (each_json one ds)

abbrev pub list_json : (Data → Items) → Datum → Json
list_json items (a_list ds) = array (items ds)
list_json items _ = null

abbrev pub with_member : List ℕ → (Datum → Json) → (Data → Members → Members) → Data → Members → Members
with_member name one others no_data ms = ms
with_member name one others (more d ds) ms = others ds (put name (one d) ms)

abbrev pub object_json : (Data → Members → Members) → Datum → Json
object_json fields (an_object ds) = object (fields ds no_members)
object_json fields _ = null

abbrev mutual
  pub json : ShapeTree → Datum → Json
  json (tree.list f) = list_json (each_json (json f))
  json (tree.object ps) = object_json (members_json ps)
  json _ = scalar_json

  pub members_json : Parts → Data → Members → Members
  members_json no_parts ds ms = ms
  members_json (part name f ps) ds ms = with_member name (json f) (members_json ps) ds ms

-- ---- the stack

-- an open part: how many values are missing behind the next one, and what is there
pub data Frame : Type 0 where
  in_array : ℕ → List Json → Frame
  -- the last name is that of the next member
  in_object : ℕ → Members → List ℕ → Frame

-- the open parts, the innermost first, and the last whole value
pub data State : Type 0 where
  state : List Frame → Json → State

abbrev pub array_given : ℕ → List Json → (Json → State) → (Frame → State) → State
array_given zero js up stay = up (array (items_of js))
array_given (suc n) js up stay = stay (in_array n js)

abbrev pub object_given : ℕ → Members → List ℕ → (Json → State) → (Frame → State) → State
object_given zero ms key up stay = up (object ms)
object_given (suc n) ms key up stay = stay (in_object n ms key)

-- a value goes into the innermost open part, and what is then whole into the one around it
abbrev pub give : List Frame → Json → Json → State
give [] last j = state [] j
give (in_array n js ∷ fs) last j = array_given n (js ++ j ∷ []) (give fs last) (λ f. state (f ∷ fs) last)
give (in_object n ms key ∷ fs) last j = object_given n (put key j ms) key (give fs last) (λ f. state (f ∷ fs) last)

abbrev pub named : List ℕ → List Frame → List Frame
named key [] = []
named key (in_array n js ∷ fs) = in_array n js ∷ fs
named key (in_object n ms old ∷ fs) = in_object n ms key ∷ fs

abbrev pub opened_array : ℕ → List Frame → Json → State
opened_array zero fs last = give fs last (array no_items)
opened_array (suc n) fs last = state (in_array n [] ∷ fs) last

abbrev pub opened_object : ℕ → List Frame → Json → State
opened_object zero fs last = give fs last (object no_members)
opened_object (suc n) fs last = state (in_object n no_members [] ∷ fs) last

abbrev pub take_in : Event → List Frame → Json → State
take_in event.unit fs last = give fs last null
take_in (event.flag b) fs last = give fs last (boolean b)
take_in (event.unsigned n) fs last = give fs last (number (unsigned n))
take_in (event.signed z) fs last = give fs last (number (of_integer z))
take_in (event.text bs) fs last = give fs last (string bs)
take_in (event.bytes bs) fs last = give fs last (string (encode_lower bs))
take_in (event.place n) fs last = give fs last (number (unsigned n))
take_in (event.list n) fs last = opened_array n fs last
take_in (event.object n) fs last = opened_object n fs last
take_in (event.field key) fs last = state (named key fs) last

abbrev pub step : State → Event → State
step (state fs last) e = take_in e fs last

abbrev pub steps : State → List Event → State
steps s [] = s
steps s (e ∷ es) = steps (step s e) es
