use Rattle.caf_actor.specs.Record.{machine_of}
use Rattle.caf_record.proofs.StampedLemmas.{has_stamps}
use Rattle.caf_record.proofs.BatchOrderLemmas.{decides}
use Rattle.caf_record.proofs.laws.order_decides_the_record.Goals as goal

pub returns : goal.returns
returns g c = λ ticks k l. decides (machine_of g.B.Behavior.rules) ticks (has_stamps g.B.Behavior.rules) k l
