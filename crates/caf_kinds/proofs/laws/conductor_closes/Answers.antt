use Rattle.caf_kinds.proofs.ClosingLemmas.{conductor_closes}
use Rattle.caf_kinds.proofs.laws.conductor_closes.Goals as goal

pub returns : goal.returns
returns c = conductor_closes
