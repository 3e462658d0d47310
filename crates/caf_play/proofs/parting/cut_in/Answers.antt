use Rattle.std.proofs.Common.{◌∙◌}
use Rattle.caf_play.proofs.PartLemmas.{cut_is}
use Rattle.caf_play.proofs.parting.cut_in.Goals as goal

pub returns-in-Some : goal.returns-in-Some
returns-in-Some c = c.in-Some.ensures ∙ cut_is c.args.journal.now

pub returns-in-None : goal.returns-in-None
returns-in-None c = c.in-None.ensures ∙ cut_is c.args.journal.now
