use Rattle.std.proofs.Common.{◌≡◌, ℕ, List, map, Some, sym, ap, subst, ◌∙◌}
use Rattle.std.proofs.lemmas.Result.{err_from_is_err_and}
use Rattle.std.specs.BTreeMap.{get_by_text}
use Rattle.serde_json.specs.View.{view}
use Rattle.caf_scenario.specs.Path.{spot_path}
use Rattle.caf_scenario.specs.Elements.{elements_of}
use Rattle.caf_scenario.specs.Steps.{sent_fault}
use Rattle.caf_scenario.specs.Scenario.{place_in, place_of}
use Rattle.caf_scenario.proofs.StepLemmas.{sent_is}
use Rattle.caf_scenario.proofs.steps.send_of.Goals as goal

pub returns-in_err-contents-in-Some : goal.returns-in_err-contents-in-Some
returns-in_err-contents-in-Some c =
    let found : get_by_text c.args.names.now c.args.to.now ≡ Some c.in-Some.found.now =
    subst (λ (name : List ℕ). get_by_text c.args.names.now name ≡ Some c.in-Some.found.now) c.as_str.ensures.text (sym c.in-Some.ensures.value) in
    let p = err_from_is_err_and c.from_residual.result c.from_residual.ensures.1 in
    rw (p.1, p.2) (λ has.
    ap (sent_fault (spot_path c.args.spot) c.args.to.now (map view c.args.message.now)) found ∙ c.in_err-contents-in-Some.ensures has)

pub returns-in_ok-contents-in-Some : goal.returns-in_ok-contents-in-Some
returns-in_ok-contents-in-Some c =
    let found : get_by_text c.args.names.now c.args.to.now ≡ Some c.in-Some.found.now =
    subst (λ (name : List ℕ). get_by_text c.args.names.now name ≡ Some c.in-Some.found.now) c.as_str.ensures.text (sym c.in-Some.ensures.value) in
    let contents = c.in_ok-contents-in-Some.contents in (
      ap (sent_fault (spot_path c.args.spot) c.args.to.now (map view c.args.message.now)) found ∙ c.in_ok-contents-in-Some.ensures.0,
      sent_is c.args.way (place_of (get_by_text c.args.names.now) c.args.to.now) c.in-Some.found.now.0 c.args.priority contents.types contents.values
          (elements_of (map view c.args.message.now)) _ (ap place_in found) c.in_ok-contents-in-Some.ensures.1 c.sent.ensures,
    )
