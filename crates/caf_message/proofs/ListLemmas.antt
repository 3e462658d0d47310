-- The first item that passes, by its place.
use Rattle.std.proofs.Common.{◌≡◌, ℕ, zero, suc, ◌<◌, Bool, true, false, List, [], ◌∷◌, length, Some, None, refl, arith}
use Rattle.std.specs.Prelude.{slice_get, remove}
use Rattle.caf_message.specs.Lists.{pick}

module _ {A : Type 0} (test : A → Bool) where
  -- no item before this place passes
  abbrev pub NoneBefore : List A → ℕ → Type 0
  NoneBefore xs n = (k : ℕ) → k < n → (x : A) → slice_get xs k ≡ Some x → test x ≡ false

  pub pick_none : (xs : List A) → NoneBefore xs (length xs) → pick test xs ≡ None
  pick_none [] fails = refl
  pick_none (x ∷ xs) fails =
      let no : test x ≡ false = fails zero (omega arith) x refl in
      rw (no, pick_none xs (λ k h e q. fails (suc k) (omega arith) e q)) refl

  pub pick_at : (xs : List A) (i : ℕ) (x : A) → NoneBefore xs i → slice_get xs i ≡ Some x → test x ≡ true → pick test xs ≡ Some (x, remove xs i)
  pick_at [] i x fails at passes = cc
  pick_at (y ∷ ys) zero x fails at passes = let same : y ≡ x = cc in rw (same, passes) refl
  pick_at (y ∷ ys) (suc i) x fails at passes =
      let no : test y ≡ false = fails zero (omega arith) y refl in
      rw (no, pick_at ys i x (λ k h e q. fails (suc k) (omega arith) e q) at passes) refl
