use Rattle.caf_events.proofs.OfShapeLemmas.{is_of}
use Rattle.caf_events.proofs.TakingLemmas.{all_again}
use Rattle.caf_events.proofs.laws.events_are_taken.Goals as goal

pub returns : goal.returns
returns c = λ f d rest fit. all_again f d (is_of f d fit) rest
