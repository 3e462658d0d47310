use Rattle.caf_carriers.proofs.ClosesLemmas.{closes_all}
use Rattle.caf_carriers.proofs.laws.closes_all.Goals as goal

pub returns : goal.returns
returns g c =
    let b = g.met.B.Behavior in
    closes_all g.B.Behavior.is_valid g.B.Behavior.rules b.stays_valid b.stays_same_actor b.sends_to_peers b.answers_requests
