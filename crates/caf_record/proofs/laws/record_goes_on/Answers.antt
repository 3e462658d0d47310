use Rattle.caf_actor.specs.Record.{machine_of}
use Rattle.caf_record.proofs.MoreTicksLemmas.{record_on}
use Rattle.caf_record.proofs.laws.record_goes_on.Goals as goal

pub returns : goal.returns
returns g c = λ ticks more k le none legal. record_on (machine_of g.B.Behavior.rules) ticks more le k none legal
