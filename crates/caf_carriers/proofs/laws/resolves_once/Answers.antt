use Rattle.caf_carriers.proofs.LawLemmas.{resolves_once}
use Rattle.caf_carriers.proofs.laws.resolves_once.Goals as goal

pub returns : goal.returns
returns g c =
    let b = g.met.B.Behavior in
    resolves_once g.B.Behavior.is_valid g.B.Behavior.rules b.stays_valid b.stays_same_actor b.sends_to_peers b.answers_requests
