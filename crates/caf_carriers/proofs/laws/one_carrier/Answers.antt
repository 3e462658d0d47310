use Rattle.caf_carriers.proofs.LawLemmas.{one_carrier}
use Rattle.caf_carriers.proofs.laws.one_carrier.Goals as goal

pub returns : goal.returns
returns g c =
    let b = g.met.B.Behavior in
    one_carrier g.B.Behavior.is_valid g.B.Behavior.rules b.stays_valid b.stays_same_actor b.sends_to_peers b.answers_requests
