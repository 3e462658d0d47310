use Rattle.caf_actor.proofs.WaitingLemmas.{takes_out}
use Rattle.caf_actor.proofs.laws.takes_out_what_it_resolves.Goals as goal

pub returns : goal.returns
returns g c = takes_out g.B.Behavior.rules
