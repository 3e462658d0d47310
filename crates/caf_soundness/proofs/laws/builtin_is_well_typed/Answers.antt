use Rattle.caf_soundness.proofs.BuiltinLemmas.{builtin_typed}
use Rattle.caf_soundness.proofs.laws.builtin_is_well_typed.Goals as goal

pub returns : goal.returns
returns c = builtin_typed
