use Rattle.caf_pipeline.proofs.DoneLemmas.{told_files_are_indexed}
use Rattle.caf_pipeline.proofs.laws.told_files_are_indexed.Goals as goal

pub returns : goal.returns
returns c = told_files_are_indexed
