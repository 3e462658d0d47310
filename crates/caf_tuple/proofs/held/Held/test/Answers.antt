use Rattle.std.proofs.Common.{rules}
use Rattle.caf_tuple.proofs.RuleLemmas.{test-keeps}
use Rattle.caf_tuple.proofs.held.Held.test.Goals as goal

pub load-requires : goal.load-requires
load-requires c = (search rules, search rules, test-keeps _ _ _ (search rules))
