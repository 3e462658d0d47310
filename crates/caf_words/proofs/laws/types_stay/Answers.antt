use Rattle.caf_words.proofs.SeveralLemmas.{types_stay}
use Rattle.caf_words.proofs.laws.types_stay.Goals as goal

pub returns : goal.returns
returns c = λ t block first ns ids fs e. types_stay t block first ns ids fs e
