-- What lists contain that are made of others.
use Rattle.std.proofs.Common.{◌≡◌, ℕ, zero, suc, ◌<◌, List, [], ◌∷◌, length, get_or, inl, inr, refl, sym, subst, ap, arith}
use Rattle.std.specs.Prelude.{Contains, flat_map, map, ◌⊎◌}
use Rattle.std.proofs.lemmas.List.Elements.{Contains-append_left, Contains-append_right, Contains-append_cases}
use Rattle.std.proofs.lemmas.List.Concat.{flat_map-cons}

module _ {X : Type 0} where
  pub contains-none : (x : X) → Contains [] x → ⊥
  contains-none x has = (let lt : has.0 < length {A = X} [] = has.1 in omega (arith, lt))

  pub contains-here : (x : X) (xs : List X) → Contains (x ∷ xs) x
  contains-here x xs = (0, omega arith, refl)

  pub contains-later : (x y : X) (xs : List X) → Contains xs y → Contains (x ∷ xs) y
  contains-later x y xs has = (suc has.0, (let lt : has.0 < length xs = has.1 in omega (arith, lt)), has.2)

  cases-at : (x y : X) (xs : List X) (k : ℕ) → k < length (x ∷ xs) → get_or (x ∷ xs) k y ≡ y → (x ≡ y) ⊎ Contains xs y
  cases-at x y xs zero lt is = inl is
  cases-at x y xs (suc k) lt is = inr (k, omega arith, is)

  pub contains-cases : (x y : X) (xs : List X) → Contains (x ∷ xs) y → (x ≡ y) ⊎ Contains xs y
  contains-cases x y xs has = cases-at x y xs has.0 has.1 has.2

module _ {X Y : Type 0} (f : X → Y) where
  pub contains-map : (x : X) (xs : List X) → Contains xs x → Contains (map f xs) (f x)
  contains-map x [] has = absurd (contains-none x has)
  contains-map x (y ∷ xs) has = elim (contains-cases y x xs has) [
    | inl is ↦ subst (λ z. Contains (f y ∷ map f xs) z) (ap f is) (contains-here (f y) (map f xs))
    | inr later ↦ contains-later (f y) (f x) (map f xs) (contains-map x xs later)
  ]

  -- what an element of the list was made of
  pub from-map : (y : Y) (xs : List X) → Contains (map f xs) y → (x : X) × Contains xs x × (f x ≡ y)
  from-map y [] has = absurd (contains-none y has)
  from-map y (x ∷ xs) has = elim (contains-cases (f x) y (map f xs) has) [
    | inl is ↦ (x, contains-here x xs, is)
    | inr later ↦ (let rest = from-map y xs later in (rest.0, contains-later x rest.0 xs rest.1, rest.2))
  ]

module _ {X Y : Type 0} (f : X → List Y) where
  pub contains-flat : (x : X) (y : Y) (xs : List X) → Contains xs x → Contains (f x) y → Contains (flat_map f xs) y
  contains-flat x y [] has part = absurd (contains-none x has)
  contains-flat x y (z ∷ xs) has part =
      subst (λ ys. Contains ys y) (sym (flat_map-cons f z xs))
      (elim (contains-cases z x xs has) [
        | inl is ↦ Contains-append_left (f z) (flat_map f xs) y (subst (λ w. Contains (f w) y) (sym is) part)
        | inr later ↦ Contains-append_right (f z) (flat_map f xs) y (contains-flat x y xs later part)
      ])

  pub from-flat : (y : Y) (xs : List X) → Contains (flat_map f xs) y → (x : X) × Contains xs x × Contains (f x) y
  from-flat y [] has = absurd (contains-none y has)
  from-flat y (x ∷ xs) has =
      elim (Contains-append_cases (f x) (flat_map f xs) y (subst (λ ys. Contains ys y) (flat_map-cons f x xs) has)) [
        | inl here ↦ (x, contains-here x xs, here)
        | inr later ↦ (let rest = from-flat y xs later in (rest.0, contains-later x rest.0 xs rest.1, rest.2))
      ]
