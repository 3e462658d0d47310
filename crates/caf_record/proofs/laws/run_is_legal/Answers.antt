use Rattle.caf_actor.specs.Record.{machine_of}
use Rattle.caf_record.proofs.StampedLemmas.{has_stamps}
use Rattle.caf_record.proofs.RunLemmas.{run_legal}
use Rattle.caf_record.proofs.laws.run_is_legal.Goals as goal

pub returns : goal.returns
returns g c = λ ticks places start steps small runs.
    let rules = g.B.Behavior.rules in
    run_legal (machine_of rules) (has_stamps rules) ticks places start small steps runs
