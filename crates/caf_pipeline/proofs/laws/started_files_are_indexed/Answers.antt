use Rattle.caf_pipeline.proofs.RestLemmas.{started_files_are_indexed}
use Rattle.caf_pipeline.proofs.laws.started_files_are_indexed.Goals as goal

pub returns : goal.returns
returns c = started_files_are_indexed
