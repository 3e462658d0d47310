use Rattle.std.proofs.Common.{rules}
use Rattle.caf_tuple.proofs.RuleLemmas.{read-keeps}
use Rattle.caf_tuple.proofs.held.Held.word.Goals as goal

pub load-requires : goal.load-requires
load-requires c = (search rules, search rules, read-keeps _ _ _ _ (search rules))
