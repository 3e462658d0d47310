use Rattle.caf_pipeline.proofs.BuiltInLemmas.{built_in}
use Rattle.caf_pipeline.proofs.laws.built_in_is_undisturbed.Goals as goal

pub returns : goal.returns
returns c = built_in
