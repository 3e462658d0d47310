use Rattle.std.proofs.Common.{sym, subst, ◌∙◌}
use Rattle.serde_json.specs.View.{view}
use Rattle.caf_json.specs.Form.{HasJson}
use Rattle.caf_json.specs.Builder.{frames_of}
use Rattle.caf_events.proofs.OfShapeLemmas.{is_of}
use Rattle.caf_json.proofs.BuildingLemmas.{built_whole}
use Rattle.caf_json.proofs.MadeLemmas.{made_has}
use Rattle.caf_json.proofs.SaverLemmas.{not_broken}
use Rattle.caf_json.proofs.saver.JsonSaver.finish.Goals as goal

pub returns-clause-form : goal.returns-clause-form
returns-clause-form c = λ f d fit saved.
    c.finish.ensures ∙ built_whole f d (frames_of c.args.self.builder.parts.items) (view c.args.self.builder.last) (is_of f d fit) (saved.whole (not_broken c.args.self f d fit saved))

pub returns-clause-has : goal.returns-clause-has
returns-clause-has c = λ f d fit saved differ.
    subst (HasJson f d) (sym (c.finish.ensures ∙ built_whole f d (frames_of c.args.self.builder.parts.items) (view c.args.self.builder.last) (is_of f d fit) (saved.whole (not_broken c.args.self f d fit saved))))
    (made_has f d (is_of f d fit) saved.range differ)
