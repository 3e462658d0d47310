-- What the collector of an undisturbed run took, where all is at rest: as much weight as all chunks have, and one finish.
use Rattle.std.proofs.Common.{◌≡◌, ℕ, ◌+◌, ◌==◌, Bool, true, false, List, [], ◌∷◌, map, Option, Some, None, refl, sym, ap, ◌∙◌, arith}
use Rattle.std.specs.List.{AllByRecursion}
use Rattle.caf_message.specs.declared.envelope.Plain.{Plain}
use Rattle.caf_message.specs.declared.envelope.Plain.TheVariants as «plain»
use Rattle.caf_message.specs.declared.envelope.Taken.{Taken}
use Rattle.caf_carriers.proofs.CountLemmas.{same_number}
use Rattle.caf_actor.specs.PlainPost.{PlainPost}
use Rattle.caf_kinds.specs.Setups.{setup_at}
use Rattle.caf_kinds.specs.declared.contents.Extent.{Extent}
use Rattle.caf_kinds.specs.declared.setup.KindName.{KindName}
use Rattle.caf_kinds.specs.declared.setup.KindName.TheVariants as name
use Rattle.caf_kinds.specs.declared.setup.Setup.{Setup}
use Rattle.caf_steady.specs.Outline.{Bare, bare}
use Rattle.caf_pipeline.specs.Undisturbed.{IsSetUp}
use Rattle.caf_pipeline.proofs.IssueLemmas.{IsSentRight}
use Rattle.caf_pipeline.proofs.LightLemmas.{IsLight}
use Rattle.caf_pipeline.proofs.PassingLemmas.{weight_as, weight_at, bare_weight}
use Rattle.caf_pipeline.proofs.PlaceLemmas.{one_of_setups}
use Rattle.caf_pipeline.proofs.ReplyLemmas.{IsReply}
use Rattle.caf_pipeline.proofs.WeightLemmas.{taken_weight, posted_weight}

-- places of different kinds differ
pub differ : (setups : List Setup) (j k : KindName) (ps qs : List ℕ) (p q : ℕ) → IsSetUp setups j ps p → IsSetUp setups k qs q → (j ≡ k → ⊥) → (p == q) ≡ false
differ setups j k ps qs p q a b other = go (p == q) refl
  where
    go : (t : Bool) → (p == q) ≡ t → (p == q) ≡ false
    go false e = e
    go true e =
        let same : Some a.setup ≡ Some b.setup = sym a.at ∙ ap (setup_at setups) (same_number p q e) ∙ b.at in
        let one : a.setup ≡ b.setup = cc in
        absurd (other (sym a.kind_is ∙ ap (λ (s : Setup). s.kind) one ∙ b.kind_is))

pub not_0 : (setups : List Setup) (k : KindName) (ps : List ℕ) (q : ℕ) → IsSetUp setups k ps q → (0 == q) ≡ false
not_0 setups k ps q is = go (0 == q) refl
  where
    go : (t : Bool) → (0 == q) ≡ t → (0 == q) ≡ false
    go false e = e
    go true e = let low = (one_of_setups setups q is.setup is.at).from_1 in let same = same_number 0 q e in absurd (omega (arith, low, same))

module _ (setups : List Setup) (a f : ℕ) (h : Extent → ℕ) where
  abbrev w : ℕ → Plain → ℕ
  w = weight_at a f h setups

  light_weighs : (to : ℕ) (words : List ℕ) → IsLight words → w to («plain».Content words) ≡ 0
  light_weighs to words light = go (setup_at setups to)
    where
      go : (o : Option Setup) → weight_as a f h o («plain».Content words) ≡ 0
      go None = refl
      go (Some s) = light a f h s.kind

  pub replies_weigh : (bs : List Bare) → AllByRecursion IsReply bs → bare_weight w bs ≡ 0
  replies_weigh [] all = refl
  replies_weigh (b ∷ bs) all =
      let one = ap (w b.to) all.0.body ∙ light_weighs b.to all.0.words all.0.light in
      let rest = replies_weigh bs all.1 in
      omega (arith, one, rest)

  pub asks_weigh : (bs : List Bare) → AllByRecursion IsSentRight bs → bare_weight w bs ≡ 0
  asks_weigh [] all = refl
  asks_weigh (b ∷ bs) all =
      let one = ap (w b.to) all.0.body ∙ light_weighs b.to all.0.words all.0.light in
      let rest = asks_weigh bs all.1 in
      omega (arith, one, rest)

  -- what comes to a source weighs nothing
  pub source_takes_none : (q : ℕ) (s : Setup) → setup_at setups q ≡ Some s → s.kind ≡ name.Source → (es : List Taken) → taken_weight w q es ≡ 0
  source_takes_none q s at is [] = refl
  source_takes_none q s at is (e ∷ es) =
      let one : w q e.body ≡ 0 = ap (λ (o : Option Setup). weight_as a f h o e.body) at ∙ by e.body in
      let rest = source_takes_none q s at is es in
      omega (arith, one, rest)
    where
      by : (b : Plain) → weight_as a f h (Some s) b ≡ 0
      by («plain».Content words) = ap (λ (k : KindName). weight_as a f h (Some (record s { kind = k })) («plain».Content words)) is
      by («plain».Failure sec) = refl
      by («plain».System what) = refl

pub posts_weigh : (w : ℕ → Plain → ℕ) (ps : List PlainPost) → posted_weight w ps ≡ bare_weight w (map bare ps)
posts_weigh w [] = refl
posts_weigh w (p ∷ ps) = ap (λ n. w p.to p.envelope.body + n) (posts_weigh w ps)

pub none_at_0 : (setups : List Setup) (a f : ℕ) (h : Extent → ℕ) (es : List Taken) → taken_weight (weight_at a f h setups) 0 es ≡ 0
none_at_0 setups a f h [] = refl
none_at_0 setups a f h (e ∷ es) = let rest = none_at_0 setups a f h es in omega (arith, rest)
