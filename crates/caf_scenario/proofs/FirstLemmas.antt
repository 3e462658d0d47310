-- Looking for the first fault among some things, one after the other.
use Rattle.std.proofs.Common.{◌≡◌, ℕ, ◌+◌, ◌<◌, List, ◌∷◌, map, drop, get_or, length, Option, Some, None, sym, ap, ◌∙◌}
use Rattle.std.proofs.lemmas.List.{drop_more}
use Rattle.caf_scenario.specs.First.{first_of}
use Rattle.caf_scenario.specs.Read.{Cause, or_else}

module _ {A B : Type 0} (see : A → B) (fault : ℕ → B → Option Cause) where
  first_more : (n i : ℕ) (xs : List A) (x : A) → i < length xs → x ≡ get_or xs i x
      → first_of fault n (map see (drop i xs)) ≡ or_else (fault n (see x)) (first_of fault (n + 1) (map see (drop (i + 1) xs)))
  first_more n i xs x lt is = ap (λ (ys : List A). first_of fault n (map see ys)) (drop_more xs i x lt ∙ ap (λ (y : A). y ∷ drop (i + 1) xs) (sym is))

  -- one without a fault is passed
  pub goes_past : (n i : ℕ) (xs : List A) (x : A) (total : Option Cause) → i < length xs → x ≡ get_or xs i x
      → fault n (see x) ≡ None → first_of fault n (map see (drop i xs)) ≡ total → first_of fault (n + 1) (map see (drop (i + 1) xs)) ≡ total
  goes_past n i xs x total lt is none so_far =
      ap (λ (e : Option Cause). or_else e (first_of fault (n + 1) (map see (drop (i + 1) xs)))) (sym none) ∙ sym (first_more n i xs x lt is) ∙ so_far

  -- the first one with a fault
  pub stops_at : (n i : ℕ) (xs : List A) (x : A) (total : Option Cause) (cause : Cause) → i < length xs → x ≡ get_or xs i x
      → fault n (see x) ≡ Some cause → first_of fault n (map see (drop i xs)) ≡ total → total ≡ Some cause
  stops_at n i xs x total cause lt is some so_far =
      sym so_far ∙ first_more n i xs x lt is ∙ ap (λ (e : Option Cause). or_else e (first_of fault (n + 1) (map see (drop (i + 1) xs)))) some

module _ {A : Type 0} (fault : ℕ → A → Option Cause) where
  more : (n i : ℕ) (xs : List A) (x : A) → i < length xs → x ≡ get_or xs i x
      → first_of fault n (drop i xs) ≡ or_else (fault n x) (first_of fault (n + 1) (drop (i + 1) xs))
  more n i xs x lt is = ap (λ (ys : List A). first_of fault n ys) (drop_more xs i x lt ∙ ap (λ (y : A). y ∷ drop (i + 1) xs) (sym is))

  pub goes_by : (n i : ℕ) (xs : List A) (x : A) (total : Option Cause) → i < length xs → x ≡ get_or xs i x
      → fault n x ≡ None → first_of fault n (drop i xs) ≡ total → first_of fault (n + 1) (drop (i + 1) xs) ≡ total
  goes_by n i xs x total lt is none so_far =
      ap (λ (e : Option Cause). or_else e (first_of fault (n + 1) (drop (i + 1) xs))) (sym none) ∙ sym (more n i xs x lt is) ∙ so_far

  pub ends_at : (n i : ℕ) (xs : List A) (x : A) (total : Option Cause) (cause : Cause) → i < length xs → x ≡ get_or xs i x
      → fault n x ≡ Some cause → first_of fault n (drop i xs) ≡ total → total ≡ Some cause
  ends_at n i xs x total cause lt is some so_far =
      sym so_far ∙ more n i xs x lt is ∙ ap (λ (e : Option Cause). or_else e (first_of fault (n + 1) (drop (i + 1) xs))) some
