use Rattle.caf_types.specs.Shape.{tree}
use Rattle.serde_json.specs.View.{view}
use Rattle.caf_json.proofs.RefusalLemmas.{given_form, given_fitting, given_refused}
use Rattle.caf_json.proofs.reading.value_of_json.Goals as goal

pub returns-clause-found : goal.returns-clause-found
returns-clause-found c = given_form (tree c.args.shape.now) (view c.args.json.now) c.value_of.result c.value_of.ensures

pub returns-clause-fitting : goal.returns-clause-fitting
returns-clause-fitting c = given_fitting (tree c.args.shape.now) (view c.args.json.now) c.value_of.result c.value_of.ensures

pub returns-clause-unfit : goal.returns-clause-unfit
returns-clause-unfit c = given_refused (tree c.args.shape.now) (view c.args.json.now) c.value_of.result c.value_of.ensures
