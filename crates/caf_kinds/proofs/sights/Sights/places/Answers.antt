use Rattle.caf_kinds.proofs.SightLemmas.{few_all}
use Rattle.caf_kinds.proofs.sights.Sights.places.Goals as goal

pub message_of-requires : goal.message_of-requires
message_of-requires c = few_all c.self.inside.gone c.self.invariant.gone
