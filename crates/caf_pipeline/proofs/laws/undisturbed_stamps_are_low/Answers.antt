use Rattle.caf_pipeline.proofs.LowLemmas.{stamps_are_low}
use Rattle.caf_pipeline.proofs.laws.undisturbed_stamps_are_low.Goals as goal

pub returns : goal.returns
returns c = stamps_are_low
