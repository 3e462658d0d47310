use Rattle.std.proofs.Common.{sym, ap, ◌∙◌}
use Rattle.std.specs.FinMap as map
use Rattle.caf_index.proofs.NumberMapLemmas.{entries-view}
use Rattle.caf_index.proofs.number_map.NumberMap.as_slice.Goals as goal

pub returns : goal.returns
returns g c = c.as_slice.ensures.value ∙ sym (entries-view _ c.self.invariant) ∙ ap map.entries c.self.view_is
