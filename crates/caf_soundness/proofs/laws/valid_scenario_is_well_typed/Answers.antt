use Rattle.caf_soundness.proofs.WellSetLemmas.{valid_typed}
use Rattle.caf_soundness.proofs.laws.valid_scenario_is_well_typed.Goals as goal

pub returns : goal.returns
returns c = valid_typed
