-- The first item that passes a test, in lists that are joined.
use Rattle.std.proofs.Common.{◌≡◌, ℕ, ◌+◌, ◌<◌, length, get_or, inl, inr, subst, arith, Bool, true, false, List, [], ◌∷◌, ◌++◌, Option, Some, None, refl, ap, ◌∙◌}
use Rattle.std.specs.Prelude.{is_some}
use Rattle.std.specs.Option.{option_map}
use Rattle.std.specs.List.{AllByRecursion, list_any}
use Rattle.std.specs.Prelude.{slice_get, remove}
use Rattle.std.proofs.lemmas.Bool.{cases_lt}
use Rattle.std.proofs.lemmas.Option.{get_or_from_slice_get, slice_get-get_or}
use Rattle.caf_message.specs.Lists.{pick, keep}
use Rattle.caf_message.proofs.ListLemmas.{NoneBefore, pick_at}

module _ {A : Type 0} (test : A → Bool) where
  is_some-keep : (x : A) (found : Option (A × List A)) → is_some (keep x found) ≡ is_some found
  is_some-keep x None = refl
  is_some-keep x (Some p) = refl

  pub is_some-pick : (xs : List A) → is_some (pick test xs) ≡ list_any test xs
  is_some-pick [] = refl
  is_some-pick (x ∷ xs) = go (test x) refl (is_some-pick xs) where
    go : (b : Bool) → test x ≡ b → is_some (pick test xs) ≡ list_any test xs → is_some (pick test (x ∷ xs)) ≡ list_any test (x ∷ xs)
    go true e rest = rw e refl
    go false e rest = rw (e, is_some-keep x (pick test xs)) rest

  pub pick-first : (x : A) (xs : List A) → test x ≡ true → pick test (x ∷ xs) ≡ Some (x, xs)
  pick-first x xs e = rw e refl

  -- items that fail stay
  pub pick-past : (xs ys : List A) (y : A) (rest : List A) → AllByRecursion (λ x. test x ≡ false) xs → pick test ys ≡ Some (y, rest) → pick test (xs ++ ys) ≡ Some (y, xs ++ rest)
  pick-past [] ys y rest fails e = e
  pick-past (x ∷ xs) ys y rest fails e = rw (fails.0, pick-past xs ys y rest fails.1 e) refl

  pub pick-past_none : (xs ys : List A) → AllByRecursion (λ x. test x ≡ false) xs → pick test ys ≡ None → pick test (xs ++ ys) ≡ None
  pick-past_none [] ys fails e = e
  pick-past_none (x ∷ xs) ys fails e = rw (fails.0, pick-past_none xs ys fails.1 e) refl

  pub none_before-more : (xs : List A) (i : ℕ) (d : A) → NoneBefore test xs i → test (get_or xs i d) ≡ false → NoneBefore test xs (i + 1)
  none_before-more xs i d before fails k h x q = elim (cases_lt k i) [
    | inl l ↦ before k l x q
    | inr g ↦
        let same : k ≡ i = omega arith in
        let here : get_or xs i d ≡ x = get_or_from_slice_get xs i x d (subst (λ (n : ℕ). slice_get xs n ≡ Some x) same q) in
        subst (λ (y : A). test y ≡ false) here fails
  ]

  pub pick-at_index : (xs : List A) (i : ℕ) (e : A) → NoneBefore test xs i → i < length xs → test (get_or xs i e) ≡ true → (d : A) → pick test xs ≡ Some (get_or xs i d, remove xs i)
  pick-at_index xs i e before within passes d =
      let same : get_or xs i e ≡ get_or xs i d = get_or_from_slice_get xs i (get_or xs i d) e (slice_get-get_or xs i d within) in
      pick_at test xs i (get_or xs i d) before (slice_get-get_or xs i d within) (subst (λ (y : A). test y ≡ true) same passes)

  pub is_some-taken : (found : Option A) (rest : List A) (xs : List A) → option_map (λ x. (x, rest)) found ≡ pick test xs → is_some found ≡ list_any test xs
  is_some-taken None rest xs e = ap is_some e ∙ is_some-pick xs
  is_some-taken (Some x) rest xs e = ap is_some e ∙ is_some-pick xs
