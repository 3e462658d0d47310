use Rattle.std.proofs.Common.{◌∙◌}
use Rattle.std.proofs.lemmas.Map.Keys.{sorted_from_strictly_increasing, IsStrictlyIncreasing-from_sorted}
use Rattle.caf_observe.proofs.PlaceLemmas.{inserts}
use Rattle.caf_observe.proofs.observers.add.Goals as goal

pub returns-clause-added : goal.returns-clause-added
returns-clause-added c = c.in_ok-insert.ensures.keys ∙ inserts _ _ (sorted_from_strictly_increasing _ c.requires)

pub returns-clause-set : goal.returns-clause-set
returns-clause-set c = IsStrictlyIncreasing-from_sorted _ c.insert.ensures.ordered
