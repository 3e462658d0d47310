use Rattle.std.proofs.Common.{rules}
use Rattle.caf_tuple.proofs.RuleLemmas.{release-keeps}
use Rattle.caf_tuple.proofs.held.Held.release.Goals as goal

pub fetch_sub-requires : goal.fetch_sub-requires
fetch_sub-requires c = (search rules, search rules, release-keeps _ _ _ (search rules))
