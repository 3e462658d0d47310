use Rattle.caf_json.proofs.FormLemmas.{read_back, has_json, one_value}
use Rattle.caf_json.proofs.laws.json_is_exact.Goals as goal

pub returns-clause-read : goal.returns-clause-read
returns-clause-read c = read_back

pub returns-clause-form : goal.returns-clause-form
returns-clause-form c = λ f d j h. has_json f j d h

pub returns-clause-one : goal.returns-clause-one
returns-clause-one c = one_value
