-- The elements of a message: one value of a type each.
use Rattle.std.specs.Prelude.{ℕ, nat_lt, Bool, List, [], ◌∷◌, length, map, Option, Some, None, option_and_then, Ok, Err}
use Rattle.std.specs.Option.{option_map}
use Rattle.serde_json.specs.Data.{Data as Json, Members, no_members, member}
use Rattle.serde_json.specs.Find.{as_object}
use Rattle.caf_types.specs.Table.{shape_at, find}
use Rattle.caf_words.specs.Datum.{Datum, Data, data_of}
use Rattle.caf_message.specs.Content.{content_of}
use Rattle.caf_json.specs.Reading.{Read as ReadJson, unjson}
use Rattle.caf_kinds.specs.Core.{core}

-- the name and the value of an object's one member
abbrev pub one_member : Members → Option (List ℕ × Json)
one_member no_members = None
one_member (member name json no_members) = Some (name, json)
one_member (member name json (member other more others)) = None

abbrev pub read_value : ReadJson Datum → Option Datum
read_value (Ok d) = Some d
read_value (Err path) = None

-- the value of the type with that ID
abbrev pub value_of : ℕ → Json → Option Datum
value_of id json = option_and_then (λ shape. read_value (unjson shape json)) (shape_at core id)

abbrev pub typed_value : List ℕ × Json → Option (ℕ × Datum)
typed_value m = option_and_then (λ id. option_map (λ d. (id, d)) (value_of id m.1)) (find core m.0)

-- the ID of an element's type, and its value
abbrev pub element_of : Json → Option (ℕ × Datum)
element_of json = option_and_then typed_value (option_and_then one_member (as_object json))

abbrev pub with_element : Option (ℕ × Datum) → List (ℕ × Datum) → List (ℕ × Datum)
with_element None es = es
with_element (Some e) es = e ∷ es

-- those of a message whose elements are all in form
abbrev pub elements_of : List Json → List (ℕ × Datum)
elements_of [] = []
elements_of (j ∷ js) = with_element (element_of j) (elements_of js)

abbrev pub ids_in : List (ℕ × Datum) → List ℕ
ids_in es = map (λ e. e.0) es

abbrev pub values_in : List (ℕ × Datum) → Data
values_in es = data_of (map (λ e. e.1) es)

-- the message would have more words than a message may have
abbrev pub is_large : List (ℕ × Datum) → Bool
is_large es = nat_lt 4194304 (length (content_of (ids_in es) (values_in es)))
