use Rattle.caf_index.proofs.LongestChunkLemmas.{chunks-longest}
use Rattle.caf_index.proofs.laws.chunks_are_longest.Goals as goal

pub returns : goal.returns
returns c = chunks-longest
