use Rattle.std.proofs.Common.{arith}
use Rattle.std.proofs.lemmas.Map.Text.{text_keys}
use Rattle.caf_types.proofs.filing.file_type.Goals as goal

pub returns-in_err-insert-2-clause-other_names : goal.returns-in_err-insert-2-clause-other_names
returns-in_err-insert-2-clause-other_names c = λ name apart. grind (arith, text_keys)

pub returns-clause-other_names : goal.returns-clause-other_names
returns-clause-other_names c = λ name apart. grind (arith, text_keys)
