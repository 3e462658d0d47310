use Rattle.caf_pipeline.proofs.PartLemmas.{hands_on}
use Rattle.caf_pipeline.proofs.laws.parts_hand_on.Goals as goal

pub returns : goal.returns
returns c = hands_on
