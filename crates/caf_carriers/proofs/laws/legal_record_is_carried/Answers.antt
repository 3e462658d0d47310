use Rattle.caf_carriers.proofs.RequestLemmas.{legal_is_carried}
use Rattle.caf_carriers.proofs.laws.legal_record_is_carried.Goals as goal

pub returns : goal.returns
returns g c =
    let b = g.met.B.Behavior in
    legal_is_carried g.B.Behavior.is_valid g.B.Behavior.rules b.stays_valid b.stays_same_actor b.sends_to_peers b.answers_requests
