use Rattle.caf_carriers.proofs.DeliveryLemmas.{none_handled}
use Rattle.caf_carriers.proofs.laws.none_handled_after_quitting.Goals as goal

pub returns : goal.returns
returns g c = none_handled g.B.Behavior.rules
