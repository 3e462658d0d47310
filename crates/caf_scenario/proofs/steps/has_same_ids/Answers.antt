use Rattle.std.proofs.Common.{◌∙◌}
use Rattle.caf_kinds.proofs.AskedLemmas.{same_numbers}
use Rattle.caf_scenario.proofs.steps.has_same_ids.Goals as goal

pub returns : goal.returns
returns c = c.eq.ensures ∙ same_numbers c.args.input.now c.args.types.now
