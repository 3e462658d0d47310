use Rattle.caf_actor.specs.Record.{machine_of}
use Rattle.caf_carriers.proofs.DeliveryLemmas.{all_taken}
use Rattle.caf_carriers.proofs.laws.every_message_is_taken.Goals as goal

pub returns : goal.returns
returns g c = all_taken (machine_of g.B.Behavior.rules)
