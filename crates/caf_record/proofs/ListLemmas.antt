-- Tests, and lists of anything.
use Rattle.std.proofs.Common.{◌≡◌, ℕ, zero, suc, ◌==◌, ◌&&◌, Bool, true, false, List, [], ◌∷◌, ◌++◌, drop, filter, refl, ap, sym, eq-eqb}
use Rattle.std.proofs.Math.Facts.{eqb_yes}
use Rattle.std.specs.List.{AllByRecursion, list_any}

-- ---- tests

pub self_equal : (n : ℕ) → (n == n) ≡ true
self_equal n = eq-eqb n n refl

pub same_of : (a b : ℕ) → (a == b) ≡ true → a ≡ b
same_of a b q = eqb_yes (rw q tt)

pub and_left : (b c : Bool) → (b && c) ≡ true → b ≡ true
and_left true c q = refl
and_left false c q = q

pub and_right : (b c : Bool) → (b && c) ≡ true → c ≡ true
and_right true c q = q
and_right false c q = cc

-- ---- lists

module _ {A : Type 0} where
  pub nil_left : (xs ys : List A) → [] ≡ xs ++ ys → xs ≡ []
  nil_left [] ys e = refl
  nil_left (x ∷ xs) ys e = cc

  pub nil_right : (xs ys : List A) → [] ≡ xs ++ ys → ys ≡ []
  nil_right [] ys e = sym e
  nil_right (x ∷ xs) ys e = cc

  module _ (P : A → Type 0) where
    pub all_left : (xs ys : List A) → AllByRecursion P (xs ++ ys) → AllByRecursion P xs
    all_left [] ys h = tt
    all_left (x ∷ xs) ys h = (h.0, all_left xs ys h.1)

    pub all_right : (xs ys : List A) → AllByRecursion P (xs ++ ys) → AllByRecursion P ys
    all_right [] ys h = h
    all_right (x ∷ xs) ys h = all_right xs ys h.1

    pub all_drop : (n : ℕ) (xs : List A) → AllByRecursion P xs → AllByRecursion P (drop n xs)
    all_drop zero xs h = h
    all_drop (suc n) [] h = tt
    all_drop (suc n) (x ∷ xs) h = all_drop n xs h.1

  pub all_map : (P Q : A → Type 0) → ((x : A) → P x → Q x) → (xs : List A) → AllByRecursion P xs → AllByRecursion Q xs
  all_map P Q f [] h = tt
  all_map P Q f (x ∷ xs) h = (f x h.0, all_map P Q f xs h.1)

  -- ---- lists and a test

  pub none_of : (test : A → Bool) (xs : List A) → list_any test xs ≡ false → AllByRecursion (λ x. test x ≡ false) xs
  none_of test [] h = tt
  none_of test (x ∷ xs) h = go (test x) refl (list_any test xs) refl h (none_of test xs)
    where
      go : (b : Bool) → test x ≡ b → (c : Bool) → list_any test xs ≡ c → list_any test (x ∷ xs) ≡ false → (list_any test xs ≡ false → AllByRecursion (λ x. test x ≡ false) xs) → AllByRecursion (λ x. test x ≡ false) (x ∷ xs)
      go false q false r k on = (q, on r)
      go true q c r k on = let wrong : true ≡ false = rw q at k in cc
      go false q true r k on = let wrong : true ≡ false = rw (q, r) at k in cc

  pub any_none : (test : A → Bool) (xs : List A) → AllByRecursion (λ x. test x ≡ false) xs → list_any test xs ≡ false
  any_none test [] h = refl
  any_none test (x ∷ xs) h = rw (h.0, any_none test xs h.1) refl

  pub filter_all : (test : A → Bool) (xs : List A) → AllByRecursion (λ x. test x ≡ true) xs → filter test xs ≡ xs
  filter_all test [] h = refl
  filter_all test (x ∷ xs) h = rw h.0 (ap (λ ys. x ∷ ys) (filter_all test xs h.1))

  pub filter_none : (test : A → Bool) (xs : List A) → AllByRecursion (λ x. test x ≡ false) xs → filter test xs ≡ []
  filter_none test [] h = refl
  filter_none test (x ∷ xs) h = rw h.0 (filter_none test xs h.1)
