use Rattle.caf_index.proofs.ChunkPostingsLemmas.{chunk-postings}
use Rattle.caf_index.proofs.laws.chunk_postings_are_the_plain_ones.Goals as goal

pub returns : goal.returns
returns c = chunk-postings
