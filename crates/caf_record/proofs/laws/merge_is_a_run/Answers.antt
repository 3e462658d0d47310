use Rattle.caf_actor.specs.Record.{machine_of}
use Rattle.caf_record.proofs.StampedLemmas.{has_stamps}
use Rattle.caf_record.proofs.MergeLemmas.{merge_runs}
use Rattle.caf_record.proofs.laws.merge_is_a_run.Goals as goal

pub returns : goal.returns
returns g c = λ ticks k ts legal merge.
    let rules = g.B.Behavior.rules in
    merge_runs (machine_of rules) (has_stamps rules) ticks k legal ts merge
