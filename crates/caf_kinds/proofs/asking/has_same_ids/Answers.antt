use Rattle.std.proofs.Common.{◌∙◌}
use Rattle.caf_kinds.proofs.AskedLemmas.{same_numbers}
use Rattle.caf_kinds.proofs.asking.has_same_ids.Goals as goal

pub returns : goal.returns
returns c = c.eq.ensures ∙ same_numbers c.args.wanted.now c.args.types.now
