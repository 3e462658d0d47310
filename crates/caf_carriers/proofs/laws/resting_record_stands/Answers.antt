use Rattle.caf_carriers.proofs.RequestLemmas.{resting_stands}
use Rattle.caf_carriers.proofs.laws.resting_record_stands.Goals as goal

pub returns : goal.returns
returns g c =
    let b = g.met.B.Behavior in
    resting_stands g.B.Behavior.is_valid g.B.Behavior.rules b.stays_valid b.stays_same_actor b.sends_to_peers b.answers_requests
