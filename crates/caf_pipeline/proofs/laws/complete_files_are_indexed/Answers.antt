use Rattle.caf_pipeline.proofs.CompleteLemmas.{complete_files_are_indexed}
use Rattle.caf_pipeline.proofs.laws.complete_files_are_indexed.Goals as goal

pub returns : goal.returns
returns c = complete_files_are_indexed
