-- Held questions: which of them may be held, and that none is answered where none of these can be.
use Rattle.std.proofs.Common.{◌≡◌, Bool, true, false, List, [], ◌∷◌, ◌++◌, map, refl, sym, ap, ◌∙◌, append_assoc}
use Rattle.std.specs.Prelude.{not, ◌&&◌, ◌||◌}
use Rattle.std.specs.List.{filter}
use Rattle.std.proofs.lemmas.List.{map-append}
use Rattle.std.proofs.lemmas.List.Elements.{filter-append}
use Rattle.caf_words.specs.Datum.{data_of}
use Rattle.caf_kinds.specs.Contents.{item_means}
use Rattle.caf_kinds.specs.Pipeline.{items_in}
use Rattle.caf_kinds.specs.Questions.{may_be_held, MayBeHeld}
use Rattle.caf_kinds.specs.declared.contents.Item.{Item}
use Rattle.caf_kinds.specs.declared.questions.Question.{Question}
use Rattle.caf_kinds.specs.declared.questions.Question.TheVariants as question
use Rattle.caf_kinds.specs.declared.questions.HeldQuestion.{HeldQuestion}

-- the items that were told are those that are read
pub items_read : (items : List Item) → items_in (data_of (map item_means items)) ≡ items
items_read [] = refl
items_read (i ∷ items) = ap (λ (others : List Item). i ∷ others) (items_read items)

-- ---- none that can be answered

module _ (answerable : Question → Bool) where
  abbrev pub can : HeldQuestion → Bool
  can h = answerable h.question

  abbrev NoneAsked : Bool → Bool → Type 0
  NoneAsked i t = ((i && answerable question.Index) || (t && answerable question.Totals)) ≡ false

  neither : (a b : Bool) → (a || b) ≡ false → (a ≡ false) × (b ≡ false)
  neither true b e = absurd cc
  neither false b e = (refl, e)

  other_false : (a b : Bool) → a ≡ true → (a && b) ≡ false → b ≡ false
  other_false true b e q = q
  other_false false b e q = absurd cc

  cannot : (i t : Bool) (q : Question) → NoneAsked i t → may_be_held i t q ≡ true → answerable q ≡ false
  cannot i t question.Index none e = other_false i (answerable question.Index) e (neither _ _ none).0
  cannot i t question.Totals none e = other_false t (answerable question.Totals) e (neither _ _ none).1

  pub none_answered : (i t : Bool) (hs : List HeldQuestion) → MayBeHeld i t hs → NoneAsked i t → filter can hs ≡ []
  none_answered i t [] all none = refl
  none_answered i t (h ∷ hs) all none = rw (cannot i t h.question none all.0) (none_answered i t hs all.1 none)

  pub all_kept : (i t : Bool) (hs : List HeldQuestion) → MayBeHeld i t hs → NoneAsked i t → filter (λ (h : HeldQuestion). not (can h)) hs ≡ hs
  all_kept i t [] all none = refl
  all_kept i t (h ∷ hs) all none = rw (cannot i t h.question none all.0) (ap (λ (others : List HeldQuestion). h ∷ others) (all_kept i t hs all.1 none))

  -- those that stay can't be answered
  kept_held : (i t : Bool) (q : Question) → may_be_held i t q ≡ true → answerable q ≡ false → may_be_held (i && not (answerable question.Index)) (t && not (answerable question.Totals)) q ≡ true
  kept_held i t question.Index e cannot_be = rw (e, cannot_be) refl
  kept_held i t question.Totals e cannot_be = rw (e, cannot_be) refl

  pub kept_may : (i t : Bool) (hs : List HeldQuestion) → MayBeHeld i t hs → MayBeHeld (i && not (answerable question.Index)) (t && not (answerable question.Totals)) (filter (λ (h : HeldQuestion). not (can h)) hs)
  kept_may i t [] all = tt
  kept_may i t (h ∷ hs) all = go (can h) refl (kept_may i t hs all.1)
    where
      go : (b : Bool) → can h ≡ b → MayBeHeld (i && not (answerable question.Index)) (t && not (answerable question.Totals)) (filter (λ (g : HeldQuestion). not (can g)) hs)
          → MayBeHeld (i && not (answerable question.Index)) (t && not (answerable question.Totals)) (filter (λ (g : HeldQuestion). not (can g)) (h ∷ hs))
      go true e rest = rw e rest
      go false e rest = rw e (kept_held i t h.question all.0 e, rest)

  -- the same of what was computed
  pub none_from : (i t x y r : Bool) → x ≡ answerable question.Index → y ≡ answerable question.Totals → r ≡ ((i && x) || (t && y)) → r ≡ false → NoneAsked i t
  none_from i t x y r p q e is_false = rw (← p, ← q) (sym e ∙ is_false)

  pub kept_from : (i t x y j u : Bool) (hs rs kept : List HeldQuestion) → x ≡ answerable question.Index → y ≡ answerable question.Totals → j ≡ (i && not x) → u ≡ (t && not y)
      → MayBeHeld i t hs → rs ≡ hs → kept ≡ filter (λ (h : HeldQuestion). not (can h)) rs → MayBeHeld j u kept
  kept_from i t x y j u hs rs kept p q e f all same is = rw (e, f, p, q, is, same) (kept_may i t hs all)

-- ---- one by one

pub part_more : {A : Type 0} (test : A → Bool) (kept new whole : List A) (x : A) (rest xs : List A) → rest ≡ x ∷ xs → new ≡ kept ++ filter test (x ∷ []) → kept ++ filter test rest ≡ whole → new ++ filter test xs ≡ whole
part_more test kept new whole x rest xs is more e =
    ap (λ ys. ys ++ filter test xs) more
    ∙ append_assoc kept (filter test (x ∷ [])) (filter test xs)
    ∙ ap (λ ys. kept ++ ys) (sym (filter-append test (x ∷ []) xs) ∙ ap (filter test) (sym is))
    ∙ e

pub deliver_more : {A B : Type 0} (test : A → Bool) (f : A → B) (told new whole : List B) (x : A) (rest xs : List A) → rest ≡ x ∷ xs → new ≡ told ++ map f (filter test (x ∷ [])) → told ++ map f (filter test rest) ≡ whole → new ++ map f (filter test xs) ≡ whole
deliver_more test f told new whole x rest xs is more e =
    ap (λ ys. ys ++ map f (filter test xs)) more
    ∙ append_assoc told (map f (filter test (x ∷ []))) (map f (filter test xs))
    ∙ ap (λ ys. told ++ ys) (sym (map-append f (filter test (x ∷ [])) (filter test xs)) ∙ ap (map f) (sym (filter-append test (x ∷ []) xs) ∙ ap (filter test) (sym is)))
    ∙ e
