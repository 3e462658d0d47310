use Rattle.std.proofs.Common.{◌≡◌, ◌∙◌, ap, sym, subst, string_bytes, true≢false, false}
use Rattle.std.specs.Str.{is_utf8}
use Rattle.std.proofs.lemmas.Str.{is_utf8-from_IsUtf8, IsUtf8-string_bytes}
use Rattle.caf_inspect.specs.TextBuilder.{frames_of}
use Rattle.caf_events.proofs.OfShapeLemmas.{is_of}
use Rattle.caf_inspect.proofs.TextSaverLemmas.{built_whole}
use Rattle.caf_inspect.proofs.TextValueLemmas.{keeps}
use Rattle.caf_inspect.proofs.text_saver.TextSaver.finish.Goals as goal

pub unreachable-requires : goal.unreachable-requires
unreachable-requires c =
    let e : is_utf8 (string_bytes c.args.self.text) ≡ false = subst (λ v. is_utf8 v.items ≡ false) c.into_bytes.ensures.value c.in-None.ensures in
    absurd (true≢false (sym (is_utf8-from_IsUtf8 (string_bytes c.args.self.text) (IsUtf8-string_bytes c.args.self.text)) ∙ e))

pub returns-clause-form : goal.returns-clause-form
returns-clause-form c = λ f d fit saved.
    c.in-Some.ensures.1 ∙ ap (λ v. v.items) c.into_bytes.ensures.value ∙ built_whole f d (frames_of c.args.self.parts.items) (string_bytes c.args.self.text) (is_of f d fit) saved.form

pub returns-clause-has : goal.returns-clause-has
returns-clause-has c = λ f d fit saved. (
  fit,
  keeps f d fit saved.range,
  c.in-Some.ensures.1 ∙ ap (λ v. v.items) c.into_bytes.ensures.value ∙ built_whole f d (frames_of c.args.self.parts.items) (string_bytes c.args.self.text) (is_of f d fit) saved.form,
)
