use Rattle.caf_typing.proofs.OpensLemmas.{opens}
use Rattle.caf_typing.proofs.laws.valid_scenario_opens.Goals as goal

pub returns : goal.returns
returns c = opens
