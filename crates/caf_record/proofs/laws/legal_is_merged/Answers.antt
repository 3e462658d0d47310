use Rattle.caf_actor.specs.Record.{machine_of}
use Rattle.caf_record.proofs.StampedLemmas.{has_stamps}
use Rattle.caf_record.proofs.MergedLemmas.{legal_merge}
use Rattle.caf_record.proofs.laws.legal_is_merged.Goals as goal

pub returns : goal.returns
returns g c = legal_merge (machine_of g.B.Behavior.rules) (has_stamps g.B.Behavior.rules)
