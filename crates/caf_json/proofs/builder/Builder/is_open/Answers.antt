use Rattle.std.proofs.Common.{◌≡◌, length, sym, ap, ◌∙◌}
use Rattle.serde_json.specs.View.{view}
use Rattle.caf_json.proofs.BuilderLemmas.{is_open, some_open, none_open}
use Rattle.caf_json.proofs.builder.Builder.is_open.Goals as goal

pub returns-clause-open : goal.returns-clause-open
returns-clause-open c = λ h. is_open c.args.self.now.parts.items (view c.args.self.now.last) (λ none. some_open c.is_empty.result _ c.is_empty.ensures h (ap length c.as_slice-parts.ensures.value ∙ none))

pub returns-clause-none : goal.returns-clause-none
returns-clause-none c = λ h. sym c.as_slice-parts.ensures.len ∙ none_open c.is_empty.result _ c.is_empty.ensures h
