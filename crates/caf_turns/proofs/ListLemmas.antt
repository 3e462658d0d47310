-- Lists with one item set, added or left out.
use Rattle.std.proofs.Common.{◌≡◌, ◌≢◌, ◌⊎◌, ℕ, zero, suc, ◌<◌, ◌==◌, Bool, true, false, List, [], ◌∷◌, ◌++◌, length, set, map, sym, refl, ap, ◌∙◌, subst, inl, inr, ⊎_elim, eq-eqb, arith, Option, Some, None}
use Rattle.std.specs.List.{AllByRecursion}
use mathlib.Core.Option as maybe
use mathlib.Core.Option.{some, none, some-injective, some-ne-none}
use lib.ListN.{get_elem?}
use Rattle.atomic_table.specs.Table.{rest}
use Rattle.atomic_table.proofs.Lists.{at_set}
use Rattle.caf_turns.specs.Steps.{IsIn, without}
use Rattle.caf_turns.proofs.StepLemmas.{same_of}

module _ {A : Type 0} where
  pub at_end : (l : List A) (a b : A) (j : ℕ) → get_elem? (l ++ a ∷ []) j ≡ some b → (get_elem? l j ≡ some b) ⊎ ((j ≡ length l) × (a ≡ b))
  at_end [] a b zero e = inr (refl, some-injective a b e)
  at_end [] a b (suc j) e = absurd (some-ne-none b (sym e))
  at_end (x ∷ xs) a b zero e = inl e
  at_end (x ∷ xs) a b (suc j) e = ⊎_elim (λ h. inl h) (λ h. inr (ap suc h.0, h.1)) (at_end xs a b j e)

  abbrev pub Each : (ℕ → A → Type 0) → List A → Type 0
  Each F views = (port : ℕ) (v : A) → get_elem? views port ≡ some v → F port v

  pub all_set : (F : ℕ → A → Type 0) (views : List A) (port : ℕ) (w : A) → F port w → ((j : ℕ) (u : A) → j ≢ port → get_elem? views j ≡ some u → F j u) → Each F (set views port w)
  all_set F views port w mine others j u e = ⊎_elim (λ (x : (j ≡ port) × (w ≡ u)). subst (λ (y : ℕ × A). F y.0 y.1) (λ i. (sym x.0 i, x.1 i)) mine)
      (λ (x : (j ≢ port) × (get_elem? views j ≡ some u)). others j u x.0 x.1) (at_set views port j w u e)

  pub within : (l : List A) (j : ℕ) (a : A) → get_elem? l j ≡ some a → j < length l
  within [] j a e = absurd (some-ne-none a (sym e))
  within (x ∷ xs) zero a e = omega arith
  within (x ∷ xs) (suc j) a e = let h = within xs j a e in omega arith

pub in_without : (i k : ℕ) (xs : List ℕ) → IsIn k (without i xs) → IsIn k xs × (k ≢ i)
in_without i k [] h = absurd h
in_without i k (x ∷ xs) h = go (i == x) refl (λ t. in_without i k xs t) h
  where
    go : (b : Bool) → (i == x) ≡ b → (IsIn k (without i xs) → IsIn k xs × (k ≢ i)) → IsIn k (without i (x ∷ xs)) → IsIn k (x ∷ xs) × (k ≢ i)
    go true q f h = let t : IsIn k (without i xs) = rw q at h in let r = f t in (inr r.0, r.1)
    go false q f h = let m : (k ≡ x) ⊎ IsIn k (without i xs) = rw q at h in
        ⊎_elim (λ e. (inl e, λ same. let t : (i == x) ≡ true = eq-eqb i x (sym same ∙ e) in cc)) (λ t. let r = f t in (inr r.0, r.1)) m

pub stays_in : (i k : ℕ) (xs : List ℕ) → IsIn k xs → k ≢ i → IsIn k (without i xs)
stays_in i k [] h n = absurd h
stays_in i k (x ∷ xs) h n = go (i == x) refl (λ t. stays_in i k xs t n) h
  where
    go : (b : Bool) → (i == x) ≡ b → (IsIn k xs → IsIn k (without i xs)) → IsIn k (x ∷ xs) → IsIn k (without i (x ∷ xs))
    go true q f h = let r : IsIn k (without i xs) = ⊎_elim (λ e. absurd (n (e ∙ sym (same_of i x q)))) f h in rw q r
    go false q f h = let r : (k ≡ x) ⊎ IsIn k (without i xs) = ⊎_elim (λ e. inl e) (λ t. inr (f t)) h in rw q r

pub without_own : (i : ℕ) → without i (i ∷ []) ≡ []
without_own i = let q : (i == i) ≡ true = eq-eqb i i refl in rw q refl

pub in_front : {A : Type 0} (l r : List (ℕ × A)) (i : ℕ) (x : A) → l ≡ (i, x) ∷ r → (y : A) × (l ≡ (i, y) ∷ rest l)
in_front l r i x e = (x, e ∙ ap (λ (z : List (ℕ × _)). (i, x) ∷ rest z) (sym e))

pub behind : {A : Type 0} (l r : List (ℕ × A)) (i : ℕ) (x : A) → l ≡ (i, x) ∷ r → rest l ≡ r
behind l r i x e = ap rest e

-- what was in a slot of which it is known that a body was there
pub same_slot : {T : Type 0} (o : maybe.Option (Option T)) (r : Option T) (y : T) → o ≡ some r → o ≡ some (Some y) → r ≡ Some y
same_slot o r y e f = some-injective r (Some y) (sym e ∙ f)

pub some_body : {T : Type 0} (a b : T) → Some a ≡ Some b → a ≡ b
some_body {T} a b e = ap (λ (o : Option T). elim o as (λ _. T) [ None ↦ a | Some x ↦ x ]) e

-- what is in slots that all hold a body
pub all_some : {T : Type 0} (xs : List T) → AllByRecursion (λ (o : Option T). o ≢ None) (map Some xs)
all_some [] = tt
all_some (x ∷ xs) = ((λ e. let z : Some x ≡ None = e in cc), all_some xs)

abbrev pub first_of : {A : Type 0} → A → List A → A
first_of a [] = a
first_of a (x ∷ xs) = x

abbrev pub rest_of : {A : Type 0} → List A → List A
rest_of [] = []
rest_of (x ∷ xs) = xs

pub same_bodies : {T : Type 0} (xs ys : List T) → map Some xs ≡ map Some ys → xs ≡ ys
same_bodies [] [] e = refl
same_bodies {T} [] (y ∷ ys) e = absurd (let z = ap (λ (l : List (Option T)). length l) e in omega arith)
same_bodies {T} (x ∷ xs) [] e = absurd (let z = ap (λ (l : List (Option T)). length l) e in omega arith)
same_bodies {T} (x ∷ xs) (y ∷ ys) e = let t = same_bodies xs ys (ap (λ (l : List (Option T)). rest_of l) e) in
    let h : x ≡ y = some_body x y (ap (λ (l : List (Option T)). first_of (Some x) l) e) in λ i. h i ∷ t i
