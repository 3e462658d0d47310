-- A tree's list of keys after `insert` and `remove` is the set with and without the place.
use Rattle.std.proofs.Common.{◌≡◌, ℕ, ◌<◌, ◌≤◌, true, false, not, nat_lt, ◌==◌, List, [], ◌∷◌, refl, sym, ap, subst, inl, inr, arith}
use Rattle.std.specs.Prelude.{filter}
use Rattle.std.specs.List.{AllByRecursion}
use Rattle.std.specs.List.Sorted.{IsStrictlySortedBy}
use Rattle.std.specs.Ordering.{nat_cmp}
use Rattle.std.specs.declared.cmp.Ordering.TheVariants.{Less}
use Rattle.std.specs.BTreeSet.{insert_key}
use Rattle.std.specs.BTreeMap.{is_at}
use Rattle.std.specs.Set.{remove_key}
use Rattle.std.proofs.lemmas.Bool.{cases_order, lt-ltb}
use Rattle.std.proofs.lemmas.Bool.Decides.{nat_tests}
use Rattle.caf_observe.specs.Places.{with_place, without_place}

-- p is below each place
abbrev IsBelow : ℕ → List ℕ → Type 0
IsBelow p ps = AllByRecursion (λ q. p < q) ps

less : (p q : ℕ) → nat_cmp p q ≡ Less → p < q
less p q h = grind (arith, nat_tests)

not_less : (p q : ℕ) → q ≤ p → nat_lt p q ≡ false
not_less p q h = grind (arith, nat_tests)

not_same : (p q : ℕ) → p < q → (p == q) ≡ false
not_same p q h = grind (arith, nat_tests)

not_same' : (p q : ℕ) → p < q → (q == p) ≡ false
not_same' p q h = grind (arith, nat_tests)

same : (p : ℕ) → (p == p) ≡ true
same p = grind (arith, nat_tests)

below : (p q : ℕ) (ps : List ℕ) → p ≤ q → AllByRecursion (λ y. nat_cmp q y ≡ Less) ps → IsBelow p ps
below p q [] h all = tt
below p q (x ∷ xs) h all = (let l : q < x = less q x all.0 in omega arith, below p q xs h all.1)

none_below : (p : ℕ) (ps : List ℕ) → IsBelow p ps → filter (λ q. nat_lt q p) ps ≡ []
none_below p [] all = refl
none_below p (x ∷ xs) all = rw (not_less x p (let h : p < x = all.0 in omega arith)) (none_below p xs all.1)

all_above : (p : ℕ) (ps : List ℕ) → IsBelow p ps → filter (λ q. nat_lt p q) ps ≡ ps
all_above p [] all = refl
all_above p (x ∷ xs) all = rw (lt-ltb p x all.0) (ap (λ ys. x ∷ ys) (all_above p xs all.1))

all_others : (p : ℕ) (ps : List ℕ) → IsBelow p ps → filter (λ q. not (q == p)) ps ≡ ps
all_others p [] all = refl
all_others p (x ∷ xs) all = rw (not_same' p x all.0) (ap (λ ys. x ∷ ys) (all_others p xs all.1))

insert_first : (p x : ℕ) (xs : List ℕ) → p < x → AllByRecursion (λ y. nat_cmp x y ≡ Less) xs → insert_key nat_cmp (x ∷ xs) p ≡ with_place (x ∷ xs) p
insert_first p x xs l all =
    rw (lt-ltb p x l, not_less x p (omega arith), none_below p xs (below p x xs (omega arith) all), all_above p xs (below p x xs (omega arith) all)) refl

insert_again : (x : ℕ) (xs : List ℕ) → AllByRecursion (λ y. nat_cmp x y ≡ Less) xs → insert_key nat_cmp (x ∷ xs) x ≡ with_place (x ∷ xs) x
insert_again x xs all =
    rw (not_less x x (omega arith), same x, none_below x xs (below x x xs (omega arith) all), all_above x xs (below x x xs (omega arith) all)) refl

insert_later : (p x : ℕ) (xs : List ℕ) → x < p → insert_key nat_cmp xs p ≡ with_place xs p → insert_key nat_cmp (x ∷ xs) p ≡ with_place (x ∷ xs) p
insert_later p x xs l rest = rw (not_less p x (omega arith), not_same' x p l, lt-ltb x p l) (ap (λ ys. x ∷ ys) rest)

-- the keys after an insertion
pub inserts : (p : ℕ) (ps : List ℕ) → IsStrictlySortedBy nat_cmp ps → insert_key nat_cmp ps p ≡ with_place ps p
unfolding IsStrictlySortedBy
inserts p [] sorted = refl
inserts p (x ∷ xs) sorted = elim (cases_order p x) [
  | inl e ↦ subst (λ (q : ℕ). insert_key nat_cmp (x ∷ xs) q ≡ with_place (x ∷ xs) q) (sym e) (insert_again x xs sorted.0)
  | inr o ↦ elim o [ inl l ↦ insert_first p x xs l sorted.0 | inr l ↦ insert_later p x xs l (inserts p xs sorted.1) ]
]

-- the keys after a removal
pub removes : (p : ℕ) (ps : List ℕ) → IsStrictlySortedBy nat_cmp ps → remove_key (is_at (nat_cmp p)) ps ≡ without_place ps p
unfolding IsStrictlySortedBy
removes p [] sorted = refl
removes p (x ∷ xs) sorted = elim (cases_order p x) [
  | inl e ↦ subst (λ (q : ℕ). remove_key (is_at (nat_cmp q)) (x ∷ xs) ≡ without_place (x ∷ xs) q) (sym e)
      (rw (not_less x x (omega arith), same x) (sym (all_others x xs (below x x xs (omega arith) sorted.0))))
  | inr o ↦ elim o [
    | inl l ↦ rw (lt-ltb p x l, not_same' p x l) (ap (λ ys. x ∷ ys) (removes p xs sorted.1))
    | inr l ↦ rw (not_less p x (omega arith), not_same' x p l, not_same x p l) (ap (λ ys. x ∷ ys) (removes p xs sorted.1))
  ]
]
