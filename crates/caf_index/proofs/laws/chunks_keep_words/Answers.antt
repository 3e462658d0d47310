use Rattle.caf_index.proofs.ChunkLawLemmas.{chunks-keep}
use Rattle.caf_index.proofs.laws.chunks_keep_words.Goals as goal

pub returns : goal.returns
returns c = chunks-keep
