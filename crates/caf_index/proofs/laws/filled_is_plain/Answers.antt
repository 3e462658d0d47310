use Rattle.std.proofs.Common.{ap}
use Rattle.caf_index.specs.IndexText.{index_text_of}
use Rattle.caf_index.proofs.FilledLemmas.{filled-plain}
use Rattle.caf_index.proofs.laws.filled_is_plain.Goals as goal

pub returns : goal.returns
returns c = record { index = filled-plain; text = λ names files es same. ap (index_text_of names) (filled-plain files es same) }
