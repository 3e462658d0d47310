-- Lists that are read and written at a place.
use Rattle.std.proofs.Common.{◌≡◌, ◌≢◌, ℕ, zero, suc, ◌<◌, ◌≤◌, ◌==◌, ◌⊎◌, Bool, true, false, List, [], ◌∷◌, length, map, Some, refl, ap, arith, inl, inr, eq-eqb}
use Rattle.std.specs.Prelude.{slice_get, slice_set, slice_index_or}
use Rattle.std.proofs.Math.Facts.{eqb_yes}

-- ---- tests

pub not_of : (p q : ℕ) → (p == q) ≡ false → p ≢ q
not_of p q apart e = let yes : (p == q) ≡ true = eq-eqb p q e in cc

pub test_of : (p q : ℕ) → p ≢ q → (p == q) ≡ false
test_of p q apart = go (p == q) refl
  where
    go : (c : Bool) → (p == q) ≡ c → (p == q) ≡ false
    go true q = absurd (apart (eqb_yes (rw q tt)))
    go false q = q

-- ---- reading

module _ {A : Type 0} where
  pub get_less : (xs : List A) (i : ℕ) (x : A) → slice_get xs i ≡ Some x → i < length xs
  get_less [] i x q = cc
  get_less (y ∷ ys) zero x q = omega arith
  get_less (y ∷ ys) (suc i) x q = let h = get_less ys i x q in omega arith

  pub get_some : (xs : List A) (i : ℕ) → i < length xs → (a : A) × (slice_get xs i ≡ Some a)
  get_some [] i lt = absurd (omega arith)
  get_some (y ∷ ys) zero lt = (y, refl)
  get_some (y ∷ ys) (suc i) lt = get_some ys i (omega arith)

  -- ---- writing

  -- what stands at a place of the list is what was written there, or stood there before
  pub set_get : (xs : List A) (i p : ℕ) (y a : A) → slice_get (slice_set xs i y) p ≡ Some a → ((p ≡ i) × (a ≡ y)) ⊎ ((p ≢ i) × (slice_get xs p ≡ Some a))
  set_get [] i p y a q = cc
  set_get (x ∷ xs) zero zero y a q = inl (refl, (cc))
  set_get (x ∷ xs) zero (suc p) y a q = inr ((λ e. omega arith), q)
  set_get (x ∷ xs) (suc i) zero y a q = inr ((λ e. omega arith), q)
  set_get (x ∷ xs) (suc i) (suc p) y a q = next (set_get xs i p y a q)
    where
      next : ((p ≡ i) × (a ≡ y)) ⊎ ((p ≢ i) × (slice_get xs p ≡ Some a)) → ((suc p ≡ suc i) × (a ≡ y)) ⊎ ((suc p ≢ suc i) × (slice_get xs p ≡ Some a))
      next (inl h) = inl (ap suc h.0, h.1)
      next (inr h) = inr ((λ e. h.0 (omega arith)), h.1)

  -- ---- a field of each, with another value past the end

  module _ {B : Type 0} (f : A → B) where
    pub field_at : (xs : List A) (p : ℕ) (x : A) (d : B) → slice_get xs p ≡ Some x → slice_index_or (map f xs) p d ≡ f x
    field_at [] p x d q = cc
    field_at (y ∷ ys) zero x d q = let same : y ≡ x = cc in ap f same
    field_at (y ∷ ys) (suc p) x d q = field_at ys p x d q

    pub field_past : (xs : List A) (p : ℕ) (d : B) → length xs ≤ p → slice_index_or (map f xs) p d ≡ d
    field_past [] p d le = refl
    field_past (y ∷ ys) zero d le = absurd (omega arith)
    field_past (y ∷ ys) (suc p) d le = field_past ys p d (omega arith)

    pub field_written : (xs : List A) (i : ℕ) (x y : A) (d : B) → slice_get xs i ≡ Some x → slice_index_or (map f (slice_set xs i y)) i d ≡ f y
    field_written [] i x y d q = cc
    field_written (z ∷ zs) zero x y d q = refl
    field_written (z ∷ zs) (suc i) x y d q = field_written zs i x y d q

    pub field_kept : (xs : List A) (i p : ℕ) (y : A) (d : B) → p ≢ i → slice_index_or (map f (slice_set xs i y)) p d ≡ slice_index_or (map f xs) p d
    field_kept [] i p y d apart = refl
    field_kept (z ∷ zs) zero zero y d apart = absurd (apart refl)
    field_kept (z ∷ zs) zero (suc p) y d apart = refl
    field_kept (z ∷ zs) (suc i) zero y d apart = refl
    field_kept (z ∷ zs) (suc i) (suc p) y d apart = field_kept zs i p y d (λ e. apart (ap suc e))

    pub fields : (xs : List A) → length (map f xs) ≡ length xs
    fields [] = refl
    fields (x ∷ xs) = ap suc (fields xs)

    pub fields_written : (xs : List A) (i : ℕ) (y : A) → length (map f (slice_set xs i y)) ≡ length (map f xs)
    fields_written [] i y = refl
    fields_written (x ∷ xs) zero y = refl
    fields_written (x ∷ xs) (suc i) y = ap suc (fields_written xs i y)
