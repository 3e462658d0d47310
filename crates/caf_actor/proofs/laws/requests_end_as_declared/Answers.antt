use Rattle.caf_actor.proofs.ResolutionLemmas.{ends_as_declared}
use Rattle.caf_actor.proofs.laws.requests_end_as_declared.Goals as goal

pub returns : goal.returns
returns g c = ends_as_declared g.B.Behavior.rules g.B.Behavior.is_valid
