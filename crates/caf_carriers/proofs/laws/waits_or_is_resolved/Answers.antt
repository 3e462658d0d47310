use Rattle.caf_carriers.proofs.LawLemmas.{waits_or_is_resolved}
use Rattle.caf_carriers.proofs.laws.waits_or_is_resolved.Goals as goal

pub returns : goal.returns
returns g c =
    let b = g.met.B.Behavior in
    waits_or_is_resolved g.B.Behavior.is_valid g.B.Behavior.rules b.stays_valid b.stays_same_actor b.sends_to_peers b.answers_requests
