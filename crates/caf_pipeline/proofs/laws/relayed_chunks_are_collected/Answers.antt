use Rattle.caf_pipeline.proofs.CollectedLemmas.{chunks_are_collected}
use Rattle.caf_pipeline.proofs.laws.relayed_chunks_are_collected.Goals as goal

pub returns : goal.returns
returns c = chunks_are_collected
