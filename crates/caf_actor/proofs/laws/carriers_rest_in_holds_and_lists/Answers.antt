use Rattle.caf_actor.proofs.ResolutionLemmas.{carriers_rest}
use Rattle.caf_actor.proofs.laws.carriers_rest_in_holds_and_lists.Goals as goal

pub returns : goal.returns
returns g c = carriers_rest g.B.Behavior.rules g.B.Behavior.is_valid
