use Rattle.caf_actor.specs.Record.{machine_of}
use Rattle.caf_record.proofs.SameRecordLemmas.{same_record}
use Rattle.caf_record.proofs.laws.merge_has_the_record.Goals as goal

pub returns : goal.returns
returns g c = λ ticks k ts legal merge. same_record (machine_of g.B.Behavior.rules) ticks k legal ts merge
