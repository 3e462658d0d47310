use Rattle.caf_headline.proofs.OpeningLemmas.{begins_well}
use Rattle.caf_headline.proofs.laws.opening_is_fresh.Goals as goal

pub returns : goal.returns
returns c = begins_well c.conductor_closes.ensures
