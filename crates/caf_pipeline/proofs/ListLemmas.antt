-- Of lists: what holds at each place of them.
use Rattle.std.proofs.Common.{◌≡◌, ℕ, zero, suc, ◌+◌, ◌<◌, List, [], ◌∷◌, ◌++◌, length, take, drop, Some, inl, inr, refl, subst, ap, ◌∙◌, arith}
use Rattle.std.specs.Prelude.{slice_get, Contains}
use Rattle.std.specs.List.{AllByRecursion}
use Rattle.caf_index.proofs.ContainsLemmas.{contains-none, contains-cases}

-- what holds at each place holds of all
pub all_at : {A : Type 0} (P : A → Type 0) (xs : List A) → ((k : ℕ) (x : A) → slice_get xs k ≡ Some x → P x) → AllByRecursion P xs
all_at P [] each = tt
all_at P (x ∷ xs) each = (each zero x refl, all_at P xs (λ k y e. each (suc k) y e))

-- what holds of all holds of each
pub one_of : {A : Type 0} (P : A → Type 0) (xs : List A) (x : A) → AllByRecursion P xs → Contains xs x → P x
one_of P [] x all has = absurd (contains-none x has)
one_of P (y ∷ ys) x all has = elim (contains-cases y x ys has) [
  | inl is ↦ subst P is all.0
  | inr later ↦ one_of P ys x all.1 later
]

pub all_of : {A : Type 0} (P Q : A → Type 0) (xs : List A) → ((x : A) → P x → Q x) → AllByRecursion P xs → AllByRecursion Q xs
all_of P Q [] each all = tt
all_of P Q (x ∷ xs) each all = (each x all.0, all_of P Q xs each all.1)

pub got_within : {A : Type 0} (xs : List A) (k : ℕ) (x : A) → slice_get xs k ≡ Some x → k < length xs
got_within [] k x e = absurd cc
got_within (y ∷ ys) zero x e = omega arith
got_within (y ∷ ys) (suc k) x e = let rest = got_within ys k x e in omega (arith, rest)

-- what stands there
pub got_at : {A : Type 0} (xs : List A) (k : ℕ) → k < length xs → (x : A) × (slice_get xs k ≡ Some x)
got_at [] k low = absurd (omega (arith, low))
got_at (x ∷ xs) zero low = (x, refl)
got_at (x ∷ xs) (suc k) low = got_at xs k (omega (arith, low))

-- ---- the first of a list

pub take_add : {A : Type 0} (a n : ℕ) (xs : List A) → take (a + n) xs ≡ take a xs ++ take n (drop a xs)
take_add zero n xs = let same : 0 + n ≡ n = omega arith in ap (λ m. take m xs) same
take_add {A} (suc a) n [] = go (suc a + n) n
  where
    go : (m k : ℕ) → take {A = A} m [] ≡ take (suc a) [] ++ take k (drop (suc a) [])
    go zero zero = refl
    go zero (suc k) = refl
    go (suc m) zero = refl
    go (suc m) (suc k) = refl
take_add (suc a) n (x ∷ xs) = let same : suc a + n ≡ suc (a + n) = omega arith in ap (λ m. take m (x ∷ xs)) same ∙ ap (λ ys. x ∷ ys) (take_add a n xs)

pub take_front : {A : Type 0} (n : ℕ) (xs : List A) → take (length (take n xs)) xs ≡ take n xs
take_front zero xs = refl
take_front (suc n) [] = refl
take_front (suc n) (x ∷ xs) = ap (λ ys. x ∷ ys) (take_front n xs)

pub all_take : {A : Type 0} (P : A → Type 0) (n : ℕ) (xs : List A) → AllByRecursion P xs → AllByRecursion P (take n xs)
all_take P zero xs all = tt
all_take P (suc n) [] all = tt
all_take P (suc n) (x ∷ xs) all = (all.0, all_take P n xs all.1)
