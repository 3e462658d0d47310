-- Lists seen by a map, after a write that the map does not see and after a removal.
use Rattle.std.proofs.Common.{◌≡◌, ◌↔◌, ℕ, zero, suc, ◌<◌, ◌≤◌, ◌∙◌, Bool, true, false, List, [], ◌∷◌, length, map, get_or, set, Option, Some, None, IfSome, OnSome, IsSome, refl, sym, ap, inl, inr, arith}
use Rattle.std.proofs.lemmas.Bool.{cases_order}
use Rattle.std.specs.Prelude.{slice_get, remove}
use Rattle.std.specs.Option.{option_map}
use Rattle.caf_message.specs.Lists.{pick}
use Rattle.caf_message.proofs.ListLemmas.{NoneBefore, pick_at}
use Rattle.caf_mailbox.specs.Search.{taken_at}

not_within : (i n : ℕ) → (i < n → ⊥) → n ≤ i
not_within i n h = elim (cases_order i n) [ inl e ↦ omega arith | inr o ↦ elim o [ inl l ↦ absurd (h l) | inr l ↦ omega arith ] ]

module _ {A B : Type 0} (f : A → B) where
  pub map_set_kept : (xs : List A) (i : ℕ) (x d : A) → f x ≡ f (get_or xs i d) → map f (set xs i x) ≡ map f xs
  map_set_kept [] i x d h = refl
  map_set_kept (y ∷ ys) zero x d h = ap (λ z. z ∷ map f ys) h
  map_set_kept (y ∷ ys) (suc i) x d h = ap (λ zs. f y ∷ zs) (map_set_kept ys i x d h)

  pub get_map : (xs : List A) (i : ℕ) (d : A) → i < length xs → slice_get (map f xs) i ≡ Some (f (get_or xs i d))
  get_map [] i d l = absurd (omega arith)
  get_map (x ∷ xs) zero d l = refl
  get_map (x ∷ xs) (suc i) d l = get_map xs i d (omega arith)

  pub get_map_past : (xs : List A) (i : ℕ) → length xs ≤ i → slice_get (map f xs) i ≡ None
  get_map_past [] i l = refl
  get_map_past (x ∷ xs) zero l = absurd (omega arith)
  get_map_past (x ∷ xs) (suc i) l = get_map_past xs i (omega arith)

  pub length_map : (xs : List A) → length (map f xs) ≡ length xs
  length_map [] = refl
  length_map (x ∷ xs) = ap suc (length_map xs)

  pub map_remove : (xs : List A) (i : ℕ) → map f (remove xs i) ≡ remove (map f xs) i
  map_remove [] zero = refl
  map_remove [] (suc i) = refl
  map_remove (x ∷ xs) zero = refl
  map_remove (x ∷ xs) (suc i) = ap (λ zs. f x ∷ zs) (map_remove xs i)

  -- what a removal at a place gives and leaves
  pub removed : (xs new : List A) (n i : ℕ) (result : Option A) → n ≡ length xs → IfSome result (λ x. x ≡ get_or xs i x) → OnSome result (new ≡ remove xs i) → (IsSome result ↔ (i < n)) →
      option_map (λ x. (f x, map f new)) result ≡ taken_at (map f xs) i
  removed xs new n i (Some x) len value items variant =
      let within : i < n = variant.0 refl in
      let at : slice_get (map f xs) i ≡ Some (f (get_or xs i x)) = get_map xs i x (omega arith) in
      let is : x ≡ get_or xs i x = value in
      rw (at, ← is, items, map_remove xs i) refl
  removed xs new n i None len value items variant =
      let past : length xs ≤ i = not_within i (length xs) (λ l. let some : false ≡ true = variant.1 (rw len l) in cc) in
      rw (get_map_past xs i past) refl

-- the first item that passes
pub pick_is : {A : Type 0} (test : A → Bool) (xs : List A) (i : ℕ) (x : A) → NoneBefore test xs i → slice_get xs i ≡ Some x → test x ≡ true → pick test xs ≡ taken_at xs i
pick_is test xs i x fails at passes = pick_at test xs i x fails at passes ∙ sym (rw at refl)
