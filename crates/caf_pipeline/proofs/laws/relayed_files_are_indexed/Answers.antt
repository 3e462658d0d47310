use Rattle.caf_pipeline.proofs.IndexedLemmas.{files_are_indexed}
use Rattle.caf_pipeline.proofs.laws.relayed_files_are_indexed.Goals as goal

pub returns : goal.returns
returns c = files_are_indexed
