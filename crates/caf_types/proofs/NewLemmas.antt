-- A block that isn't refused has new IDs and names alone.
use Rattle.std.proofs.Common.{◌≡◌, ℕ, ◌+◌, ◌<◌, ◌≤◌, eqb, cond, Bool, true, false, List, [], ◌∷◌, ◌++◌, Option, Some, None, refl, sym, ap, ◌∙◌, arith}
use Rattle.std.specs.Prelude.{bytes_eq, is_some, find, ◌||◌}
use Rattle.std.specs.Option.{option_map}
use Rattle.std.proofs.lemmas.Bool.{ne_eqb, ltb-false}
use Rattle.std.proofs.lemmas.Slice.Eq.{bytes_eq-Decides}
use Rattle.std.proofs.lemmas.List.Sums.{sum_by-cons}
use Rattle.caf_types.specs.Table.{Named, type_at, id_of, has_id, has_name, first_taken, first_name, clashes, count_named, numbered}
use Rattle.caf_types.specs.New.{AreNew}
use Rattle.caf_types.proofs.TableLemmas.{type_at-append, id_of-append}

absent : {A : Type 0} (o : Option A) → is_some o ≡ false → o ≡ None
absent None e = refl
absent (Some x) e = absurd cc

not_none : {A : Type 0} (x : A) → Some x ≡ None → ⊥
not_none x e = let no : true ≡ false = ap (λ o. is_some o) e in absurd cc

free_id : (ts : List (ℕ × Named)) (at : ℕ) (n : Named) (ns : List Named) (b : Bool) → has_id ts at ≡ b → first_taken ts at (n ∷ ns) ≡ None → (has_id ts at ≡ false) × (first_taken ts (at + 1) ns ≡ None)
free_id ts at n ns true e h = absurd (not_none at (rw e at h))
free_id ts at n ns false e h = (e, rw e at h)

-- a type more doesn't take later IDs
taken_more : (ts : List (ℕ × Named)) (id : ℕ) (n : Named) (at : ℕ) (ns : List Named) → id < at → first_taken ts at ns ≡ None → first_taken (ts ++ (id, n) ∷ []) at ns ≡ None
taken_more ts id n at [] lt h = refl
taken_more ts id n at (m ∷ ns) lt h =
    let free = free_id ts at m ns (has_id ts at) refl h in
    let apart : eqb id at ≡ false = ne_eqb id at (λ e. omega (arith, e, lt)) in
    let still : has_id (ts ++ (id, n) ∷ []) at ≡ false = ap (λ o. is_some o) (type_at-append ts ((id, n) ∷ []) at) ∙ rw (absent (type_at ts at) free.0) (rw apart refl) in
    rw still (taken_more ts id n (at + 1) ns (omega (arith, lt)) free.1)

splits : (a b : Bool) → (a || b) ≡ false → (a ≡ false) × (b ≡ false)
splits true b e = absurd cc
splits false b e = (refl, e)

no_clash : (ts : List (ℕ × Named)) (all : List Named) (n : Named) (ns : List Named) (b : Bool) → clashes ts all n.name ≡ b → find (λ (m : Named). clashes ts all m.name) (n ∷ ns) ≡ None
    → (clashes ts all n.name ≡ false) × (find (λ (m : Named). clashes ts all m.name) ns ≡ None)
no_clash ts all n ns true e h = absurd (not_none n (rw e at h))
no_clash ts all n ns false e h = (e, rw e at h)

count_step : (name : List ℕ) (n : Named) (ns : List Named) → count_named name (n ∷ ns) ≡ cond (bytes_eq name n.name) 1 0 + count_named name ns
count_step name n ns = sum_by-cons (λ (m : Named). cond (bytes_eq name m.name) 1 0) n ns

counted : (name : List ℕ) (n : Named) (ns : List Named) (b : Bool) → bytes_eq name n.name ≡ b → count_named name (n ∷ ns) ≡ 0 → (bytes_eq name n.name ≡ false) × (count_named name ns ≡ 0)
counted name n ns true e h = let one : 1 + count_named name ns ≡ 0 = rw e at (sym (count_step name n ns) ∙ h) in absurd (omega (arith, one))
counted name n ns false e h = (e, let rest : 0 + count_named name ns ≡ 0 = rw e at (sym (count_step name n ns) ∙ h) in omega (arith, rest))

-- a type more doesn't clash with other names
clash_more : (ts : List (ℕ × Named)) (all : List Named) (id : ℕ) (n : Named) (ns : List Named) → count_named n.name ns ≡ 0 → find (λ (m : Named). clashes ts all m.name) ns ≡ None
    → find (λ (m : Named). clashes (ts ++ (id, n) ∷ []) all m.name) ns ≡ None
clash_more ts all id n [] none h = refl
clash_more ts all id n (m ∷ ns) none h =
    let free = no_clash ts all m ns (clashes ts all m.name) refl h in
    let apart = splits (has_name ts m.name) _ free.0 in
    let others = counted n.name m ns (bytes_eq n.name m.name) refl none in
    let still : has_name (ts ++ (id, n) ∷ []) m.name ≡ false = ap (λ o. is_some o) (id_of-append ts ((id, n) ∷ []) m.name) ∙ rw (absent (id_of ts m.name) apart.0) (rw others.0 refl) in
    let quiet : clashes (ts ++ (id, n) ∷ []) all m.name ≡ false = rw (still, apart.1) refl in
    rw quiet (clash_more ts all id n ns others.1 free.1)

count_here : (name : List ℕ) (n : Named) (ns : List Named) → count_named name ns ≤ count_named name (n ∷ ns)
count_here name n ns = omega (arith, count_step name n ns)

count_once : (n : Named) (ns : List Named) → bytes_eq n.name n.name ≡ true → count_named n.name (n ∷ ns) ≡ 1 + count_named n.name ns
count_once n ns e = count_step n.name n ns ∙ rw e refl

-- what no refusal tells of the entries
pub all_new : (ts : List (ℕ × Named)) (all : List Named) (first : ℕ) (ns : List Named) → first_taken ts first ns ≡ None → find (λ (m : Named). clashes ts all m.name) ns ≡ None
    → ((name : List ℕ) → count_named name ns ≤ count_named name all) → AreNew ts (numbered first ns)
all_new ts all first [] taken clash within = tt
all_new ts all first (n ∷ ns) taken clash within =
    let free = free_id ts first n ns (has_id ts first) refl taken in
    let quiet = no_clash ts all n ns (clashes ts all n.name) refl clash in
    let apart = splits (has_name ts n.name) _ quiet.0 in
    let once : count_named n.name all ≤ 1 = ltb-false 1 (count_named n.name all) apart.1 in
    let here : count_named n.name (n ∷ ns) ≡ 1 + count_named n.name ns = count_once n ns ((bytes_eq-Decides n.name n.name).1 refl) in
    let none : count_named n.name ns ≡ 0 = omega (arith, once, here, within n.name) in (
      free.0,
      apart.0,
      all_new (ts ++ (first, n) ∷ []) all (first + 1) ns (taken_more ts first n (first + 1) ns (omega arith) free.1) (clash_more ts all first n ns none quiet.1) (λ name. omega (arith, within name, count_here name n ns)),
    )

pub block_new : (ts : List (ℕ × Named)) (first : ℕ) (ns : List Named) → first_taken ts first ns ≡ None → first_name ts ns ≡ None → AreNew ts (numbered first ns)
block_new ts first ns taken clash = all_new ts ns first ns taken (unnamed _ clash) (λ name. omega arith)
  where
    unnamed : (o : Option Named) → option_map (λ (n : Named). n.name) o ≡ None → o ≡ None
    unnamed None e = refl
    unnamed (Some n) e = absurd (not_none n.name e)
