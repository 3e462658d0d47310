use Rattle.std.proofs.Common.{ap, ◌∙◌}
use Rattle.std.specs.FinMap as map
use Rattle.caf_index.proofs.NumberMapLemmas.{view_empty}
use Rattle.caf_index.proofs.number_map.NumberMap.new.Goals as goal

pub returns : goal.returns
returns g c = ap map.from_sorted c.new.ensures.items ∙ view_empty
