use Rattle.caf_pipeline.proofs.NumberLemmas.{runs_are_short}
use Rattle.caf_pipeline.proofs.laws.undisturbed_runs_are_short.Goals as goal

pub returns : goal.returns
returns c = runs_are_short
