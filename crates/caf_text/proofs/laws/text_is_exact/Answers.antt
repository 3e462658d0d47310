use Rattle.caf_text.proofs.WholeLemmas.{read_back, has_text, one_value}
use Rattle.caf_text.proofs.laws.text_is_exact.Goals as goal

pub returns-clause-read : goal.returns-clause-read
returns-clause-read c = read_back

pub returns-clause-form : goal.returns-clause-form
returns-clause-form c = has_text

pub returns-clause-one : goal.returns-clause-one
returns-clause-one c = one_value
