-- Lists whose items are known by their places, and facts of each item.
use Rattle.std.proofs.Common.{◌≡◌, ◌≢◌, ◌⊎◌, ℕ, zero, suc, List, [], ◌∷◌, ◌++◌, length, set, sym, refl, ap, subst, inl, inr, ⊎_elim}
use Rattle.std.specs.List.{AllByRecursion}
use mathlib.Core.Option.{some, some-injective, some-ne-none}
use lib.ListN.{get_elem?}
use Rattle.crossbeam_queue.proofs.Lists.{at_set}

module _ {A : Type 0} where
  at_end : (xs : List A) (x y : A) (j : ℕ) → get_elem? (xs ++ x ∷ []) j ≡ some y → (get_elem? xs j ≡ some y) ⊎ ((j ≡ length xs) × (x ≡ y))
  at_end [] x y zero e = inr (refl, some-injective x y e)
  at_end [] x y (suc j) e = absurd (some-ne-none y (sym e))
  at_end (z ∷ zs) x y zero e = inl e
  at_end (z ∷ zs) x y (suc j) e = ⊎_elim (λ h. inl h) (λ h. inr (ap suc h.0, h.1)) (at_end zs x y j e)

  -- a fact of each item and its place
  abbrev pub Each : (ℕ → A → Type 0) → List A → Type 0
  Each F xs = (place : ℕ) (x : A) → get_elem? xs place ≡ some x → F place x

  moved : (F : ℕ → A → Type 0) (i j : ℕ) (x y : A) → j ≡ i → x ≡ y → F i x → F j y
  moved F i j x y e f h = subst (λ (p : ℕ × A). F p.0 p.1) (λ k. (sym e k, f k)) h

  -- after a write of one item
  pub each_set : (F : ℕ → A → Type 0) (xs : List A) (place : ℕ) (x : A) → F place x → ((j : ℕ) (y : A) → j ≢ place → get_elem? xs j ≡ some y → F j y) → Each F (set xs place x)
  each_set F xs place x here others j y e =
      ⊎_elim (λ (h : (j ≡ place) × (x ≡ y)). moved F place j x y h.0 h.1 here) (λ (h : (j ≢ place) × (get_elem? xs j ≡ some y)). others j y h.0 h.1) (at_set xs place j x y e)

  -- after one item more
  pub each_push : (F : ℕ → A → Type 0) (xs : List A) (x : A) → Each F xs → F (length xs) x → Each F (xs ++ x ∷ [])
  each_push F xs x old here j y e =
      ⊎_elim (λ (h : get_elem? xs j ≡ some y). old j y h) (λ (h : (j ≡ length xs) × (x ≡ y)). moved F (length xs) j x y h.0 h.1 here) (at_end xs x y j e)

  -- the first item of a list
  pub each_one : (F : ℕ → A → Type 0) (x : A) → F 0 x → Each F (x ∷ [])
  each_one F x here = each_push F [] x (λ j y e. absurd (some-ne-none y (sym e))) here

  -- what stood at a place, behind a write at another
  pub stood_at : (xs : List A) (place other : ℕ) (x y : A) → ¬ (other ≡ place) → get_elem? (set xs place x) other ≡ some y → get_elem? xs other ≡ some y
  stood_at xs place other x y two e = ⊎_elim (λ (h : (other ≡ place) × (x ≡ y)). absurd (two h.0)) (λ (h : (other ≢ place) × (get_elem? xs other ≡ some y)). h.1) (at_set xs place other x y e)

  pub all_append : (F : A → Type 0) (xs ys : List A) → AllByRecursion F xs → AllByRecursion F ys → AllByRecursion F (xs ++ ys)
  all_append F [] ys h k = k
  all_append F (x ∷ xs) ys h k = (h.0, all_append F xs ys h.1 k)

  pub all_push : (F : A → Type 0) (xs : List A) (x : A) → AllByRecursion F xs → F x → AllByRecursion F (xs ++ x ∷ [])
  all_push F xs x h k = all_append F xs (x ∷ []) h (k, tt)

  -- of one in the middle, of the last, and of one that is contained
  pub all_middle : (F : A → Type 0) (xs ys : List A) (x : A) → AllByRecursion F (xs ++ x ∷ ys) → F x
  all_middle F [] ys x h = h.0
  all_middle F (y ∷ xs) ys x h = all_middle F xs ys x h.1

  pub all_last : (F : A → Type 0) (xs : List A) (x : A) → AllByRecursion F (xs ++ x ∷ []) → F x
  all_last F xs x h = all_middle F xs [] x h

  pub all_weaker : (F G : A → Type 0) → ((x : A) → F x → G x) → (xs : List A) → AllByRecursion F xs → AllByRecursion G xs
  all_weaker F G f [] h = tt
  all_weaker F G f (x ∷ xs) h = (f x h.0, all_weaker F G f xs h.1)
