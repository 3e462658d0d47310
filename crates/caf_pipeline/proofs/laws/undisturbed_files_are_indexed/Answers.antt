use Rattle.caf_pipeline.proofs.UndisturbedLemmas.{undisturbed_files_are_indexed}
use Rattle.caf_pipeline.proofs.laws.undisturbed_files_are_indexed.Goals as goal

pub returns : goal.returns
returns c = undisturbed_files_are_indexed
