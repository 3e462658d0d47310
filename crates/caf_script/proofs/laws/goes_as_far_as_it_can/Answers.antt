use Rattle.caf_script.proofs.ScriptLemmas.{goes_as_far_as_it_can}
use Rattle.caf_script.proofs.laws.goes_as_far_as_it_can.Goals as goal

pub returns : goal.returns
returns c = goes_as_far_as_it_can
