use Rattle.std.proofs.lemmas.Result.{err_from_is_err_and}
use Rattle.caf_scenario.proofs.ValidLemmas.{not_json, not_in_form, in_form}
use Rattle.caf_scenario.proofs.scenario.read_scenario.Goals as goal

pub returns-in_err-json : goal.returns-in_err-json
returns-in_err-json c =
    let p = err_from_is_err_and c.from_residual.result c.from_residual.ensures.1 in
    rw (p.1, p.2) (not_json _ _ c.in_err-json.ensures)

pub returns-in_err-written : goal.returns-in_err-written
returns-in_err-written c =
    let p = err_from_is_err_and c.from_residual-in_err-written.result c.from_residual-in_err-written.ensures.1 in
    rw (p.1, p.2) (not_in_form _ _ _ c.in_ok-json.ensures c.in_err-written.ensures)

pub returns : goal.returns
returns c = in_form _ _ _ _ c.in_ok-json.ensures c.in_ok-written.ensures c.scenario_of.ensures
