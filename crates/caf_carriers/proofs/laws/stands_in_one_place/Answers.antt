use Rattle.caf_carriers.proofs.LawLemmas.{stands_in_one_place}
use Rattle.caf_carriers.proofs.laws.stands_in_one_place.Goals as goal

pub returns : goal.returns
returns g c =
    let b = g.met.B.Behavior in
    stands_in_one_place g.B.Behavior.is_valid g.B.Behavior.rules b.stays_valid b.stays_same_actor b.sends_to_peers b.answers_requests
