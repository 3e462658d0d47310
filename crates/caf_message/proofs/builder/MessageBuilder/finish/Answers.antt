use Rattle.std.proofs.Common.{◌≡◌, ℕ, List, ◌∷◌, ◌++◌, length, sym, ap, subst, ◌∙◌}
use Rattle.caf_steps.specs.declared.reference.Reference.{Reference}
use Rattle.caf_message.specs.Content.{IsContent}
use Rattle.caf_message.proofs.FitsLemmas.{built_content_is}
use Rattle.caf_message.proofs.builder.MessageBuilder.finish.Goals as goal

pub invariant_of-result : goal.invariant_of-result
invariant_of-result c =
    let ids : List ℕ = c.self.inside.ids.items in
    let words : List ℕ = c.self.inside.words.items in
    let is : c.in_ok-tuple.tuple.content ≡ length ids ∷ (ids ++ words) =
    ap (λ (r : Reference). r.content) c.in_ok-tuple.ensures.made ∙ c.as_slice-3.ensures.value ∙ c.in_ok-content.ensures
    ∙ ap (λ (xs : List ℕ). length xs ∷ (xs ++ c.as_slice-2.result.now)) c.as_slice.ensures.value
    ∙ ap (λ (ys : List ℕ). length ids ∷ (ids ++ ys)) c.as_slice-2.ensures.value in
    subst IsContent (sym is) (built_content_is record { ids = ids; words = words } c.self.invariant)
