use Rattle.caf_actor.proofs.WaitingLemmas.{gives_what}
use Rattle.caf_actor.proofs.laws.gives_what_it_resolves.Goals as goal

pub returns : goal.returns
returns g c = gives_what g.B.Behavior.rules
