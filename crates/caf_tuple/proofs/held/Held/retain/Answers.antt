use Rattle.std.proofs.Common.{rules}
use Rattle.caf_tuple.proofs.RuleLemmas.{retain-keeps, split-keeps}
use Rattle.caf_tuple.proofs.held.Held.retain.Goals as goal

pub fetch_add-requires : goal.fetch_add-requires
fetch_add-requires c = (search rules, search rules, retain-keeps _ _ _ (search rules) (search rules))

pub split_seat-seat-requires : goal.split_seat-seat-requires
split_seat-seat-requires c = (search rules, search rules, split-keeps _ _ (search rules))
