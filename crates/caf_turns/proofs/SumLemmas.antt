-- Sums over all views, and words that become more or less.
use Rattle.std.proofs.Common.{◌≡◌, ◌≢◌, ℕ, zero, suc, ◌+◌, ◌*◌, ◌-◌, ◌^◌, ◌%◌, ◌<◌, ◌≤◌, List, [], ◌∷◌, ◌++◌, set, sym, refl, ap, ◌∙◌, arith}
use Rattle.std.proofs.Math.Nat.{mod-eq_of_lt, add-mod_left}
use mathlib.Core.Option.{some, some-injective, some-ne-none}
use lib.ListN.{get_elem?}
use Rattle.caf_turns.specs.declared.view.View.{View}
use Rattle.caf_turns.specs.Steps.{announced}
use Rattle.caf_turns.specs.Rule.{total}
use Rattle.caf_turns.specs.Limits.{most_announcements, most_due}

-- a word that becomes less by k, and one that becomes more by 1
pub less : (r k : ℕ) → k ≤ r → r < 18446744073709551616 → (r + (2 ^ 64 - k)) % 2 ^ 64 ≡ r - k
less r k le small = let e : r + (2 ^ 64 - k) ≡ 2 ^ 64 + (r - k) = omega arith in
    let lt : r - k < 2 ^ 64 = omega arith in
    ap (λ n. n % 2 ^ 64) e ∙ add-mod_left (2 ^ 64) (r - k) ∙ mod-eq_of_lt lt

pub more : (r : ℕ) → r ≤ most_due → (r + 1) % 2 ^ 64 ≡ r + 1
more r le = let lt : r + 1 < 2 ^ 64 = omega arith in mod-eq_of_lt lt

module _ {T : Type 0} where
  pub total_set : (f : View T → ℕ) (views : List (View T)) (port : ℕ) (v w : View T) → get_elem? views port ≡ some v → total f (set views port w) + f v ≡ total f views + f w
  total_set f [] port v w e = absurd (some-ne-none v (sym e))
  total_set f (x ∷ xs) zero v w e = let p : f x ≡ f v = ap f (some-injective x v e) in omega arith
  total_set f (x ∷ xs) (suc port) v w e = let h = total_set f xs port v w e in omega arith

  pub total_snoc : (f : View T → ℕ) (views : List (View T)) (w : View T) → total f (views ++ w ∷ []) ≡ total f views + f w
  total_snoc f [] w = omega arith
  total_snoc f (x ∷ xs) w = let h = total_snoc f xs w in omega arith

  pub part_of : (f : View T → ℕ) (views : List (View T)) (j : ℕ) (u : View T) → get_elem? views j ≡ some u → f u ≤ total f views
  part_of f [] j u e = absurd (some-ne-none u (sym e))
  part_of f (x ∷ xs) zero u e = let p : f x ≡ f u = ap f (some-injective x u e) in omega arith
  part_of f (x ∷ xs) (suc j) u e = let h = part_of f xs j u e in omega arith

  -- one with all of it leaves none to the others
  pub none_left : (f : View T → ℕ) (views : List (View T)) (id j : ℕ) (v u : View T) → get_elem? views id ≡ some v → get_elem? views j ≡ some u → j ≢ id → f v + f u ≤ total f views
  none_left f [] id j v u e g n = absurd (some-ne-none v (sym e))
  none_left f (x ∷ xs) zero zero v u e g n = absurd (n refl)
  none_left f (x ∷ xs) zero (suc j) v u e g n = let p : f x ≡ f v = ap f (some-injective x v e) in let h = part_of f xs j u g in omega arith
  none_left f (x ∷ xs) (suc id) zero v u e g n = let p : f x ≡ f u = ap f (some-injective x u g) in let h = part_of f xs id v e in omega arith
  none_left f (x ∷ xs) (suc id) (suc j) v u e g n = let h = none_left f xs id j v u e g (λ s. n (ap suc s)) in omega arith

  -- a sum of which only one has any
  pub nothing : (f : View T → ℕ) (views : List (View T)) → ((j : ℕ) (u : View T) → get_elem? views j ≡ some u → f u ≡ 0) → total f views ≡ 0
  nothing f [] z = refl
  nothing f (x ∷ xs) z = let a = z zero x refl in let h = nothing f xs (λ j u e. z (suc j) u e) in omega arith

  pub alone : (f : View T → ℕ) (views : List (View T)) (id : ℕ) (v : View T) → get_elem? views id ≡ some v → ((j : ℕ) (u : View T) → j ≢ id → get_elem? views j ≡ some u → f u ≡ 0) → total f views ≡ f v
  alone f [] id v e z = absurd (some-ne-none v (sym e))
  alone f (x ∷ xs) zero v e z = let p : f x ≡ f v = ap f (some-injective x v e) in let h = nothing f xs (λ j u e. z (suc j) u (λ s. absurd (omega arith)) e) in omega arith
  alone f (x ∷ xs) (suc id) v e z = let p : f x ≡ 0 = z zero x (λ s. absurd (omega arith)) refl in
      let h = alone f xs id v e (λ j u n e. z (suc j) u (λ s. n (omega arith)) e) in omega arith

  -- all announcements, if each seat made at most 2^53 for each of its parts
  pub total_few : (views : List (View T)) → ((j : ℕ) (u : View T) → get_elem? views j ≡ some u → announced u.steps ≤ most_announcements * u.parts)
      → total (λ v. announced v.steps) views ≤ most_announcements * total (λ v. v.parts) views
  total_few [] few = omega arith
  total_few (x ∷ xs) few = let a = few zero x refl in let h = total_few xs (λ j u e. few (suc j) u e) in omega arith
