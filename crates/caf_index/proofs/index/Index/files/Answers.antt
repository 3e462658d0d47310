use Rattle.std.proofs.Common.{sym, ap, ◌∙◌}
use Rattle.std.specs.FinMap as map
use Rattle.caf_index.proofs.IndexLemmas.{get-rows}
use Rattle.caf_index.proofs.index.Index.files.Goals as goal

pub returns : goal.returns
returns c = c.get.ensures.value ∙ sym (get-rows c.self.inside.words.entries c.args.word.now) ∙ ap (λ m. map.get m c.args.word.now) c.self.view_is
