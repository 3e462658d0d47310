use Rattle.caf_pipeline.proofs.SentLemmas.{script_is_sent}
use Rattle.caf_pipeline.proofs.laws.undisturbed_script_is_sent.Goals as goal

pub returns : goal.returns
returns c = script_is_sent
