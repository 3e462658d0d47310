use Rattle.caf_actor.specs.Record.{machine_of}
use Rattle.caf_record.proofs.MoreTicksLemmas.{run_on}
use Rattle.caf_record.proofs.laws.run_goes_on.Goals as goal

pub returns : goal.returns
returns g c = λ ticks more s steps le runs low. run_on (machine_of g.B.Behavior.rules) ticks more le s steps runs low
