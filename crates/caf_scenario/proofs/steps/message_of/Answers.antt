use Rattle.std.proofs.Common.{◌≡◌, Bool, true, false, List, map, Some, sym, ap, ◌∙◌, arith}
use Rattle.serde_json.specs.View.{view}
use Rattle.caf_types.specs.declared.shape.TypeId.{TypeId}
use Rattle.caf_signature.specs.declared.interface.Signature.{Signature}
use Rattle.caf_words.specs.Several.{ids_of}
use Rattle.caf_actor.specs.Rules.{is_input}
use Rattle.caf_kinds.specs.Kinds.{interface_of}
use Rattle.caf_scenario.specs.Path.{spot_path}
use Rattle.caf_scenario.specs.Actors.{conductor}
use Rattle.caf_scenario.specs.Read.{Cause, interface, unless}
use Rattle.caf_scenario.proofs.StepLemmas.{message_fault_is}
use Rattle.caf_scenario.proofs.steps.message_of.Goals as goal

pub returns-then-not-takes : goal.returns-then-not-takes
returns-then-not-takes c =
    let contents = c.in_ok-contents.contents in
    let taken : c.takes.result ≡ is_input (interface_of c.args.kind) (ids_of contents.types) =
    c.takes.ensures
    ∙ ap (λ (i : List Signature). is_input i (ids_of c.as_slice.result.now)) c.in_ok-interface.ensures
    ∙ ap (λ (types : List TypeId). is_input (interface_of c.args.kind) (ids_of types)) c.as_slice.ensures in
    let no : c.takes.result ≡ false = first_of (cc, grind arith) in
    λ has.
    message_fault_is (spot_path c.args.spot) c.args.to.now (map view c.args.message.now) c.args.kind contents.types contents.values c.takes.result
    c.in_ok-contents.ensures.0 c.in_ok-contents.ensures.1 (sym c.in_ok-is_large.ensures ∙ c.if-branch.false) taken
    ∙ ap (λ (b : Bool). unless b (interface conductor c.args.to.now)) no
    ∙ ap (λ (cause : Cause). Some cause) (sym (c.interface_fault.ensures has))

pub returns : goal.returns
returns c =
    let contents = c.in_ok-contents.contents in
    let taken : c.takes.result ≡ is_input (interface_of c.args.kind) (ids_of contents.types) =
    c.takes.ensures
    ∙ ap (λ (i : List Signature). is_input i (ids_of c.as_slice.result.now)) c.in_ok-interface.ensures
    ∙ ap (λ (types : List TypeId). is_input (interface_of c.args.kind) (ids_of types)) c.as_slice.ensures in
    let yes : c.takes.result ≡ true = first_of (cc, grind arith) in (
      message_fault_is (spot_path c.args.spot) c.args.to.now (map view c.args.message.now) c.args.kind contents.types contents.values c.takes.result
          c.in_ok-contents.ensures.0 c.in_ok-contents.ensures.1 (sym c.in_ok-is_large.ensures ∙ c.if-branch.false) taken
          ∙ ap (λ (b : Bool). unless b (interface conductor c.args.to.now)) yes,
      c.in_ok-contents.ensures.1,
    )
