-- A message as the program holds it has the faults of the written one, and says the same step.
use Rattle.std.proofs.Common.{◌≡◌, ℕ, Bool, false, not, nat_lt, List, length, map, Option, None, codes, sym, ap, ◌∙◌}
use Rattle.serde_json.specs.Data.{Data as Json}
use Rattle.caf_types.specs.declared.shape.TypeId.{TypeId}
use Rattle.caf_types.specs.declared.notice.Priority.{Priority}
use Rattle.caf_words.specs.Datum.{Datum, data_of}
use Rattle.caf_words.specs.Several.{ids_of}
use Rattle.caf_words.specs.Value.{datum}
use Rattle.caf_words.specs.declared.value.Value.{Value}
use Rattle.caf_message.specs.Content.{content_of}
use Rattle.caf_actor.specs.Rules.{is_input}
use Rattle.caf_kinds.specs.declared.setup.KindName.{KindName}
use Rattle.caf_kinds.specs.Kinds.{interface_of}
use Rattle.caf_scenario.specs.declared.written.Way.{Way}
use Rattle.caf_scenario.specs.Path.{at_member}
use Rattle.caf_scenario.specs.First.{first_of}
use Rattle.caf_scenario.specs.Actors.{conductor}
use Rattle.caf_scenario.specs.Elements.{elements_of, ids_in, values_in, is_large}
use Rattle.caf_scenario.specs.Contents.{AreContents}
use Rattle.caf_scenario.specs.Steps.{element_fault, message_fault}
use Rattle.caf_scenario.specs.Scenario.{PlainStep, sent_said}
use Rattle.caf_scenario.specs.Read.{Cause, field, interface, or_else, unless}

large_is : (types : List TypeId) (values : List Value) (es : List (ℕ × Datum)) → AreContents types values es
    → nat_lt 4194304 (length (content_of (ids_of types) (data_of (map datum values)))) ≡ is_large es
large_is types values es h =
    ap (λ (ids : List ℕ). nat_lt 4194304 (length (content_of ids (data_of (map datum values))))) h.ids_are
    ∙ ap (λ (ds : List Datum). nat_lt 4194304 (length (content_of (ids_in es) (data_of ds)))) h.data_are

-- where its elements are in form and it isn't too large, what is left is whether its types are taken
pub message_fault_is : (path to : List ℕ) (message : List Json) (kind : KindName) (types : List TypeId) (values : List Value) (taken : Bool)
    → first_of (element_fault (at_member path (codes "message"))) 0 message ≡ None → AreContents types values (elements_of message)
    → nat_lt 4194304 (length (content_of (ids_of types) (data_of (map datum values)))) ≡ false
    → taken ≡ is_input (interface_of kind) (ids_of types)
    → message_fault path to message kind ≡ unless taken (interface conductor to)
message_fault_is path to message kind types values taken none h small is =
    let es = elements_of message in
    let last : Option Cause = unless (is_input (interface_of kind) (ids_in es)) (interface conductor to) in
    let within : is_large es ≡ false = sym (large_is types values es h) ∙ small in
    ap (λ (e : Option Cause). or_else e (or_else (unless (not (is_large es)) (field (at_member path (codes "message")))) last)) none
    ∙ ap (λ (b : Bool). or_else (unless (not b) (field (at_member path (codes "message")))) last) within
    ∙ ap (λ (ids : List ℕ). unless (is_input (interface_of kind) ids) (interface conductor to)) (sym h.ids_are)
    ∙ ap (λ (b : Bool). unless b (interface conductor to)) (sym is)

pub sent_is : (way : Way) (to place : ℕ) (priority : Priority) (types : List TypeId) (values : List Value) (es : List (ℕ × Datum)) (step : PlainStep)
    → to ≡ place → AreContents types values es → step ≡ sent_said way place priority (ids_of types) (data_of (map datum values))
    → step ≡ sent_said way to priority (ids_in es) (values_in es)
sent_is way to place priority types values es step there h e =
    e
    ∙ ap (λ (n : ℕ). sent_said way n priority (ids_of types) (data_of (map datum values))) (sym there)
    ∙ ap (λ (ids : List ℕ). sent_said way to priority ids (data_of (map datum values))) h.ids_are
    ∙ ap (λ (ds : List Datum). sent_said way to priority (ids_in es) (data_of ds)) h.data_are
