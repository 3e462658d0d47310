use Rattle.std.proofs.Common.{sym, ap, ◌∙◌}
use Rattle.std.specs.FinMap as map
use Rattle.caf_index.proofs.IndexLemmas.{len-rows}
use Rattle.caf_index.proofs.index.Index.words.Goals as goal

pub returns : goal.returns
returns c = c.len.ensures.len ∙ sym (len-rows c.self.inside.words.entries c.len.ensures.unique) ∙ ap map.len c.self.view_is
