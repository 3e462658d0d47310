use Rattle.caf_pipeline.proofs.TextLemmas.{complete_text_has_index}
use Rattle.caf_pipeline.proofs.laws.complete_text_has_index.Goals as goal

pub returns : goal.returns
returns c = complete_text_has_index
