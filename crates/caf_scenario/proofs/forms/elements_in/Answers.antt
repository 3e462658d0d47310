use Rattle.std.proofs.Common.{◌≡◌, Some, sym, refl}
use Rattle.serde_json.specs.View.{view, items_view}
use Rattle.serde_json.specs.Find.{as_array}
use Rattle.caf_scenario.proofs.EachLemmas.{elements_are}
use Rattle.caf_scenario.proofs.forms.elements_in.Goals as goal

pub returns-in-Some : goal.returns-in-Some
returns-in-Some c =
    let elements : as_array (view c.args.json.now) ≡ Some (items_view c.in-Some.elements.now.items) = sym c.in-Some.ensures in
    rw (elements, elements_are, c.as_slice.ensures.value) refl
