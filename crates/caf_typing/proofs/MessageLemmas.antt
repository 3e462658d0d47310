-- The elements of a message without faults are values of types of the table.
use Rattle.std.proofs.Common.{◌≡◌, ℕ, ◌≤◌, ◌&&◌, Bool, true, false, not, List, [], ◌∷◌, length, map, Option, Some, None, Ok, Err, codes, refl, sym, ap, subst, ◌∙◌}
use Rattle.std.specs.Prelude.{option_and_then, is_some}
use Rattle.std.specs.Option.{option_map}
use Rattle.std.specs.List.{AllByRecursion}
use Rattle.std.proofs.lemmas.Bool.{ltb-false}
use Rattle.serde_json.specs.Data.{Data as Json}
use Rattle.serde_json.specs.Find.{as_object}
use Rattle.caf_types.specs.ShapeTree.{ShapeTree}
use Rattle.caf_types.specs.Table.{shape_at, find}
use Rattle.caf_words.specs.Datum.{Datum, Data, fits}
use Rattle.caf_words.specs.Several.{several_fit}
use Rattle.caf_message.specs.Content.{content_of}
use Rattle.caf_message.specs.Fits.{HaveShapes}
use Rattle.caf_actor.specs.Rules.{is_input}
use Rattle.caf_events.proofs.OfShapeLemmas.{is_fitting}
use Rattle.caf_json.specs.Reading.{Read as ReadJson, unjson}
use Rattle.caf_json.proofs.FormLemmas.{has_json, json_is_of}
use Rattle.caf_kinds.specs.Core.{core}
use Rattle.caf_kinds.specs.Kinds.{interface_of}
use Rattle.caf_kinds.specs.declared.setup.KindName.{KindName}
use Rattle.caf_scenario.specs.Actors.{conductor}
use Rattle.caf_scenario.specs.Elements.{one_member, read_value, value_of, typed_value, element_of, with_element, elements_of, ids_in, values_in, is_large}
use Rattle.caf_scenario.specs.First.{first_of}
use Rattle.caf_scenario.specs.Path.{at_member}
use Rattle.caf_scenario.specs.Read.{Cause, field, interface, or_else, unless}
use Rattle.caf_scenario.specs.Steps.{element_fault, message_fault}
use Rattle.caf_typing.proofs.FaultLemmas.{NoFault, neither, none_each, holds, and_then_some, map_some, some_is, all_to}

-- ---- elements

-- its value is one of its type
abbrev pub IsTypedElement : ℕ × Datum → Type 0
IsTypedElement e = (shape : ShapeTree) × (shape_at core e.0 ≡ Some shape) × (fits shape e.1 ≡ true)

read_is : (r : ReadJson Datum) (d : Datum) → read_value r ≡ Some d → r ≡ Ok d
read_is (Ok x) d h = let same : x ≡ d = cc in ap (λ (y : Datum). Ok y) same
read_is (Err path) d h = absurd cc

value_typed : (id : ℕ) (json : Json) (d : Datum) → value_of id json ≡ Some d → IsTypedElement (id, d)
value_typed id json d h =
    let found = and_then_some (λ shape. read_value (unjson shape json)) (shape_at core id) d h in
    (found.0, found.1, is_fitting found.0 d (json_is_of found.0 d json (has_json found.0 json d (read_is (unjson found.0 json) d found.2))))

member_typed : (m : List ℕ × Json) (e : ℕ × Datum) → typed_value m ≡ Some e → IsTypedElement e
member_typed m e h =
    let found = and_then_some (λ id. option_map (λ d. (id, d)) (value_of id m.1)) (find core m.0) e h in
    let value = map_some (λ (d : Datum). (found.0, d)) (value_of found.0 m.1) e found.2 in
    subst IsTypedElement value.2 (value_typed found.0 m.1 value.0 value.1)

element_typed : (j : Json) (e : ℕ × Datum) → element_of j ≡ Some e → IsTypedElement e
element_typed j e h =
    let found = and_then_some typed_value (option_and_then one_member (as_object j)) e h in
    member_typed found.0 e found.2

elements_typed : (js : List Json) → AllByRecursion (λ j. is_some (element_of j) ≡ true) js → AllByRecursion IsTypedElement (elements_of js)
elements_typed [] all = tt
elements_typed (j ∷ js) all =
    let found = some_is (element_of j) all.0 in
    subst (λ (o : Option (ℕ × Datum)). AllByRecursion IsTypedElement (with_element o (elements_of js))) (sym found.1)
    (element_typed j found.0 found.1, elements_typed js all.1)

-- ---- contents

-- these types have shapes, which the values fit
pub record AreTyped (ids : List ℕ) (values : Data) : Type 0 where
  pub shapes : List ShapeTree
  pub known : HaveShapes (shape_at core) ids shapes
  pub fit : several_fit shapes values ≡ true

typed_of : (es : List (ℕ × Datum)) → AllByRecursion IsTypedElement es → AreTyped (ids_in es) (values_in es)
typed_of [] all = record { shapes = []; known = refl; fit = refl }
typed_of (e ∷ es) all =
    let rest = typed_of es all.1 in
    record {
      shapes = all.0.0 ∷ rest.shapes;
      known = ap (λ (o : Option ShapeTree). o ∷ map (shape_at core) (ids_in es)) all.0.1 ∙ ap (λ (os : List (Option ShapeTree)). Some all.0.0 ∷ os) rest.known;
      fit = ap (λ (b : Bool). b && several_fit rest.shapes (values_in es)) all.0.2 ∙ rest.fit;
    }

-- ---- messages

-- what one of that kind may be sent
pub record IsTypedMessage (kind : KindName) (ids : List ℕ) (values : Data) : Type 0 where
  pub typed : AreTyped ids values
  pub small : length (content_of ids values) ≤ 4194304
  pub taken : is_input (interface_of kind) ids ≡ true

not_true : (b : Bool) → not b ≡ true → b ≡ false
not_true true h = absurd cc
not_true false h = refl

is_element : (path : List ℕ) (j : Json) → NoFault (element_fault path) j → is_some (element_of j) ≡ true
is_element path j none = holds (is_some (element_of j)) _ none.1

pub message_typed : (path to : List ℕ) (message : List Json) (kind : KindName) → message_fault path to message kind ≡ None
    → IsTypedMessage kind (ids_in (elements_of message)) (values_in (elements_of message))
message_typed path to message kind none =
    let inner : List ℕ = at_member path (codes "message") in
    let size : Option Cause = unless (not (is_large (elements_of message))) (field inner) in
    let last : Option Cause = unless (is_input (interface_of kind) (ids_in (elements_of message))) (interface conductor to) in
    let split = neither (first_of (element_fault inner) 0 message) (or_else size last) none in
    let others = neither size last split.1 in
    let each = all_to (NoFault (element_fault inner)) (λ j. is_some (element_of j) ≡ true) (is_element inner) message (none_each (element_fault inner) 0 message split.0) in
    record {
      typed = typed_of (elements_of message) (elements_typed message each);
      small = ltb-false _ _ (not_true (is_large (elements_of message)) (holds _ _ others.0));
      taken = holds _ _ others.1;
    }
