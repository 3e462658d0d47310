use Rattle.std.proofs.Common.{◌∙◌}
use Rattle.caf_scripted.proofs.IdLemmas.{same_numbers}
use Rattle.caf_scripted.proofs.scripted.have_same_ids.Goals as goal

pub returns : goal.returns
returns c = c.eq.ensures ∙ same_numbers c.args.left.now c.args.right.now
