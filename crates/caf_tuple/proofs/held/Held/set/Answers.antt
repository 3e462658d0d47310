use Rattle.std.proofs.Common.{rules}
use Rattle.caf_tuple.proofs.RuleLemmas.{write-keeps}
use Rattle.caf_tuple.proofs.held.Held.set.Goals as goal

pub store-requires : goal.store-requires
store-requires c = (search rules, search rules, write-keeps _ _ _ _ _ (search rules) (search rules))
