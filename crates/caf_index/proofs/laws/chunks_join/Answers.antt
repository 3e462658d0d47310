use Rattle.caf_index.proofs.ChunkLawLemmas.{chunks-join}
use Rattle.caf_index.proofs.laws.chunks_join.Goals as goal

pub returns : goal.returns
returns c = chunks-join
