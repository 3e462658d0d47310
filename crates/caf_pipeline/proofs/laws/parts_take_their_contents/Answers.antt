use Rattle.caf_pipeline.proofs.BeginLemmas.{parts_take_theirs}
use Rattle.caf_pipeline.proofs.laws.parts_take_their_contents.Goals as goal

pub returns : goal.returns
returns c = parts_take_theirs
