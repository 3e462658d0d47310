use Rattle.caf_inbox.proofs.RuleLemmas.{taken_before_pushed}
use Rattle.caf_inbox.proofs.laws.taken_is_a_prefix.Goals as goal

pub returns : goal.returns
returns c = taken_before_pushed
