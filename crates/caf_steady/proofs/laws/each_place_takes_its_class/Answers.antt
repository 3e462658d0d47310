use Rattle.caf_steady.proofs.TakingLemmas.{takes_its_class}
use Rattle.caf_steady.proofs.laws.each_place_takes_its_class.Goals as goal

pub returns : goal.returns
returns g c = takes_its_class g.B.Behavior.rules
