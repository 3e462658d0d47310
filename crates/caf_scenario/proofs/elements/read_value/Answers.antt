use Rattle.std.proofs.Common.{◌≡◌, Ok, sym, ap}
use Rattle.serde_json.specs.View.{view}
use Rattle.caf_types.specs.Shape.{tree}
use Rattle.caf_words.specs.Value.{datum}
use Rattle.caf_json.specs.Reading.{unjson}
use Rattle.caf_json.proofs.FormLemmas.{read_back}
use Rattle.caf_scenario.specs.Elements.{read_value}
use Rattle.caf_scenario.proofs.elements.read_value.Goals as goal

pub returns-in-Ok : goal.returns-in-Ok
returns-in-Ok c =
    let read : unjson (tree c.args.shape.now) (view c.args.json.now) ≡ Ok (datum c.in-Ok.value) =
    read_back (tree c.args.shape.now) (datum c.in-Ok.value) (view c.args.json.now) c.in-Ok.ensures.found in
    sym (ap read_value read)
