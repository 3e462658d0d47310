use Rattle.caf_types.specs.TypeTable.{seen}
use Rattle.caf_scripted.proofs.BatchLemmas.{has_numbers}
use Rattle.caf_staged.proofs.run.ScriptedRun.step.Goals as goal

pub step-requires : goal.step-requires
step-requires c = record { entries = has_numbers (seen c.self.inside.table) c.self.invariant.0 }
