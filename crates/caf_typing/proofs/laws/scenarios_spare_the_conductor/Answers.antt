use Rattle.caf_typing.proofs.SparesLemmas.{spared}
use Rattle.caf_typing.proofs.laws.scenarios_spare_the_conductor.Goals as goal

pub returns : goal.returns
returns c = spared
