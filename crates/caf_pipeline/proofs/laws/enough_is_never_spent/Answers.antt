use Rattle.caf_pipeline.proofs.NumberLemmas.{enough_never_spent}
use Rattle.caf_pipeline.proofs.laws.enough_is_never_spent.Goals as goal

pub returns : goal.returns
returns c = enough_never_spent
