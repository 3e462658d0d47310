use Rattle.caf_message.proofs.FitsLemmas.{one_meaning_lem}
use Rattle.caf_message.proofs.laws.one_meaning.Goals as goal

pub returns : goal.returns
returns c = one_meaning_lem
