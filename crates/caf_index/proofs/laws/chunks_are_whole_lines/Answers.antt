use Rattle.caf_index.proofs.WholeLinesLemmas.{chunks-whole}
use Rattle.caf_index.proofs.laws.chunks_are_whole_lines.Goals as goal

pub returns : goal.returns
returns c = chunks-whole
