-- Lists that are read from the front.
use Rattle.std.proofs.Common.{◌≡◌, ℕ, ◌+◌, ◌<◌, Bool, true, false, List, ◌∷◌, length, drop, get_or, Some, refl, sym, ap, ◌∙◌}
use Rattle.std.specs.Prelude.{find}
use Rattle.std.proofs.lemmas.List.{drop_more}

module _ {A : Type 0} where
  -- what is left begins with the item that was read
  pub next_item : (xs : List A) (i : ℕ) (x : A) → i < length xs → x ≡ get_or xs i x → drop i xs ≡ x ∷ drop (i + 1) xs
  next_item xs i x lt is = drop_more xs i x lt ∙ ap (λ y. y ∷ drop (i + 1) xs) (sym is)

  pub find_here : (test : A → Bool) (xs : List A) (i : ℕ) (x : A) → i < length xs → x ≡ get_or xs i x → test x ≡ true → find test (drop i xs) ≡ Some x
  find_here test xs i x lt is passes = ap (find test) (next_item xs i x lt is) ∙ rw passes refl

  pub find_on : (test : A → Bool) (xs : List A) (i : ℕ) (x : A) → i < length xs → x ≡ get_or xs i x → test x ≡ false → find test (drop i xs) ≡ find test (drop (i + 1) xs)
  find_on test xs i x lt is fails = ap (find test) (next_item xs i x lt is) ∙ rw fails refl
