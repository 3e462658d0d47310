-- Places of which none stands twice are no more than the numbers below which they are.
use Rattle.std.proofs.Common.{◌≡◌, ◌≢◌, ℕ, zero, suc, ◌+◌, ◌<◌, ◌≤◌, Bool, true, false, List, [], ◌∷◌, length, inl, inr, refl, subst, arith}
use Rattle.std.specs.Prelude.{Contains, ◌==◌, if◌then◌else◌}
use Rattle.std.specs.List.{AllByRecursion}
use Rattle.std.proofs.lemmas.Bool.Decides.{nat_tests}
use Rattle.caf_index.proofs.ContainsLemmas.{contains-here, contains-later, contains-cases}
use Rattle.caf_pipeline.specs.Undisturbed.{AreApart}

-- the list without that number, where it first stands
abbrev without : ℕ → List ℕ → List ℕ
without n [] = []
without n (x ∷ xs) = if x == n then xs else x ∷ without n xs

kept : (n z : ℕ) (xs : List ℕ) → Contains (without n xs) z → Contains xs z
kept n z [] has = has
kept n z (x ∷ xs) has = go (x == n) (λ there. kept n z xs there) has
  where
    go : (b : Bool) → (Contains (without n xs) z → Contains xs z) → Contains (if b then xs else x ∷ without n xs) z → Contains (x ∷ xs) z
    go true rest has = contains-later x z xs has
    go false rest has = elim (contains-cases x z (without n xs) has) [
      | inl is ↦ subst (Contains (x ∷ xs)) is (contains-here x xs)
      | inr later ↦ contains-later x z xs (rest later)
    ]

stay_apart : (n : ℕ) (xs : List ℕ) → AreApart xs → AreApart (without n xs)
stay_apart n [] apart = tt
stay_apart n (x ∷ xs) apart = go (x == n) (stay_apart n xs apart.1)
  where
    go : (b : Bool) → AreApart (without n xs) → AreApart (if b then xs else x ∷ without n xs)
    go true rest = apart.1
    go false rest = (λ has. apart.0 (kept n x xs has), rest)

one_fewer : (n : ℕ) (xs : List ℕ) → length xs ≤ length (without n xs) + 1
one_fewer n [] = omega arith
one_fewer n (x ∷ xs) = go (x == n) (one_fewer n xs)
  where
    go : (b : Bool) → length xs ≤ length (without n xs) + 1 → length (x ∷ xs) ≤ length (if b then xs else x ∷ without n xs) + 1
    go true rest = omega arith
    go false rest = omega (arith, rest)

less_than : (n : ℕ) (xs : List ℕ) → (Contains xs n → ⊥) → AllByRecursion (λ x. x < suc n) xs → AllByRecursion (λ x. x < n) xs
less_than n [] none all = tt
less_than n (x ∷ xs) none all =
    let other : x ≢ n = λ e. none (subst (Contains (x ∷ xs)) e (contains-here x xs)) in
    let small = all.0 in
    (omega (arith, other, small), less_than n xs (λ has. none (contains-later x n xs has)) all.1)

all_less : (n : ℕ) (xs : List ℕ) → AreApart xs → AllByRecursion (λ x. x < suc n) xs → AllByRecursion (λ x. x < n) (without n xs)
all_less n [] apart all = tt
all_less n (x ∷ xs) apart all = go (x == n) refl (all_less n xs apart.1 all.1)
  where
    go : (b : Bool) → (x == n) ≡ b → AllByRecursion (λ x. x < n) (without n xs) → AllByRecursion (λ x. x < n) (if b then xs else x ∷ without n xs)
    go true q rest = let same : x ≡ n = grind (arith, nat_tests, q) in less_than n xs (subst (λ (y : ℕ). Contains xs y → ⊥) same apart.0) all.1
    go false q rest =
        let other : x ≢ n = grind (arith, nat_tests, q) in
        let small = all.0 in
        (omega (arith, other, small), rest)

pub no_more_than : (n : ℕ) (xs : List ℕ) → AreApart xs → AllByRecursion (λ x. x < n) xs → length xs ≤ n
no_more_than zero [] apart all = omega arith
no_more_than zero (x ∷ xs) apart all = let small = all.0 in absurd (omega (arith, small))
no_more_than (suc n) xs apart all =
    let rest = no_more_than n (without n xs) (stay_apart n xs apart) (all_less n xs apart all) in
    let one = one_fewer n xs in
    omega (arith, rest, one)
