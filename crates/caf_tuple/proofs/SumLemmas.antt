-- A sum over a list, of which one element is known by its place.
use Rattle.std.proofs.Common.{◌≡◌, ◌≢◌, ℕ, zero, suc, ◌+◌, ◌≤◌, List, [], ◌∷◌, set, sym, refl, ap, arith}
use Rattle.std.specs.List.{sum_by}
use Rattle.std.proofs.lemmas.List.Sums.{sum_by-cons}
use mathlib.Core.Option.{some, some-injective, some-ne-none}
use lib.ListN.{get_elem?}

module _ {X : Type 0} (f : X → ℕ) where
  -- what a change of one element does to the sum
  pub sum_by-set_at : (l : List X) (i : ℕ) (x y : X) → get_elem? l i ≡ some x → sum_by f (set l i y) + f x ≡ sum_by f l + f y
  sum_by-set_at [] i x y at = absurd (some-ne-none x (sym at))
  sum_by-set_at (z ∷ zs) zero x y at = let same : f z ≡ f x = ap f (some-injective z x at) in omega (arith, sum_by-cons f z zs, sum_by-cons f y zs)
  sum_by-set_at (z ∷ zs) (suc i) x y at = omega (arith, sum_by-set_at zs i x y at, sum_by-cons f z zs, sum_by-cons f z (set zs i y))

  -- no element is above the sum
  pub le-sum_by : (l : List X) (i : ℕ) (x : X) → get_elem? l i ≡ some x → f x ≤ sum_by f l
  le-sum_by [] i x at = absurd (some-ne-none x (sym at))
  le-sum_by (z ∷ zs) zero x at = let same : f z ≡ f x = ap f (some-injective z x at) in omega (arith, sum_by-cons f z zs)
  le-sum_by (z ∷ zs) (suc i) x at = omega (arith, le-sum_by zs i x at, sum_by-cons f z zs)

  -- nor are two elements together
  pub two-le-sum_by : (l : List X) (i j : ℕ) (x y : X) → get_elem? l i ≡ some x → get_elem? l j ≡ some y → j ≢ i → f x + f y ≤ sum_by f l
  two-le-sum_by [] i j x y at there other = absurd (some-ne-none x (sym at))
  two-le-sum_by (z ∷ zs) zero zero x y at there other = absurd (other refl)
  two-le-sum_by (z ∷ zs) zero (suc j) x y at there other = let same : f z ≡ f x = ap f (some-injective z x at) in omega (arith, le-sum_by zs j y there, sum_by-cons f z zs)
  two-le-sum_by (z ∷ zs) (suc i) zero x y at there other = let same : f z ≡ f y = ap f (some-injective z y there) in omega (arith, le-sum_by zs i x at, sum_by-cons f z zs)
  two-le-sum_by (z ∷ zs) (suc i) (suc j) x y at there other = omega (arith, two-le-sum_by zs i j x y at there (λ same. other (ap suc same)), sum_by-cons f z zs)

  -- a sum of zeros
  sum_by-zeros : (l : List X) → ((j : ℕ) (y : X) → get_elem? l j ≡ some y → f y ≡ 0) → sum_by f l ≡ 0
  sum_by-zeros [] none_counts = refl
  sum_by-zeros (z ∷ zs) none_counts = omega (arith, none_counts 0 z refl, sum_by-zeros zs (λ j. none_counts (suc j)), sum_by-cons f z zs)

  -- where all other elements count 0, the sum is that of the one element
  pub sum_by-alone : (l : List X) (i : ℕ) (x : X) → get_elem? l i ≡ some x → ((j : ℕ) (y : X) → j ≢ i → get_elem? l j ≡ some y → f y ≡ 0) → sum_by f l ≡ f x
  sum_by-alone [] i x at others = absurd (some-ne-none x (sym at))
  sum_by-alone (z ∷ zs) zero x at others = let same : f z ≡ f x = ap f (some-injective z x at) in
      let rest = sum_by-zeros zs (λ j y there. others (suc j) y (λ e. absurd (omega arith)) there) in omega (arith, sum_by-cons f z zs)
  sum_by-alone (z ∷ zs) (suc i) x at others = let head : f z ≡ 0 = others 0 z (λ e. absurd (omega arith)) refl in
      let rest = sum_by-alone zs i x at (λ j y other there. others (suc j) y (λ e. other (omega arith)) there) in omega (arith, sum_by-cons f z zs)
