use Rattle.std.proofs.Common.{◌∙◌}
use Rattle.std.proofs.lemmas.Map.Keys.{sorted_from_strictly_increasing, IsStrictlyIncreasing-from_sorted}
use Rattle.caf_observe.proofs.PlaceLemmas.{removes}
use Rattle.caf_observe.proofs.observers.take_out.Goals as goal

pub returns-clause-removed : goal.returns-clause-removed
returns-clause-removed c = c.remove.ensures.keys ∙ removes _ _ (sorted_from_strictly_increasing _ c.requires)

pub returns-clause-set : goal.returns-clause-set
returns-clause-set c = IsStrictlyIncreasing-from_sorted _ c.remove.ensures.ordered
