use Rattle.caf_actor.proofs.QuitLemmas.{none_after_quitting}
use Rattle.caf_actor.proofs.laws.none_handled_after_quitting.Goals as goal

pub returns : goal.returns
returns g c = none_after_quitting g.B.Behavior.rules
