use Rattle.caf_soundness.proofs.OpenLemmas.{well_typed}
use Rattle.caf_soundness.proofs.laws.well_set_is_well_typed.Goals as goal

pub returns : goal.returns
returns c = well_typed
