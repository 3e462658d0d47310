use Rattle.caf_typing.proofs.BuiltinLemmas.{opens}
use Rattle.caf_typing.proofs.laws.builtin_opens.Goals as goal

pub returns : goal.returns
returns c = opens
