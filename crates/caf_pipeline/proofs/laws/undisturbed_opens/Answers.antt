use Rattle.caf_pipeline.proofs.OpenLemmas.{opens}
use Rattle.caf_pipeline.proofs.laws.undisturbed_opens.Goals as goal

pub returns : goal.returns
returns c = opens
