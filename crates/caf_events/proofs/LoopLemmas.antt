-- Telling and taking several values, as a loop does.
use Rattle.std.proofs.Common.{◌≡◌, ℕ, suc, ◌+◌, ◌-◌, ◌<◌, ◌≤◌, true, List, [], ◌∷◌, ◌++◌, map, drop, get_or, length, Some, None, is_some, refl, sym, ap, ◌∙◌, arith}
use Rattle.std.proofs.lemmas.List.{drop_more, drop_all}
use Rattle.caf_words.specs.Datum.{Datum, Data, more, front_of, data_of, count}
use Rattle.caf_events.specs.Event.{Event, each_events}
use Rattle.caf_events.specs.Taking.{Took, ◌>>=◌, done, then_more, many}

-- what was taken before, and what is still taken
abbrev pub with_front : List Datum → Took Data → Took Data
with_front front took = took >>= λ ds es. done (front_of front ds) es

front_more : (front : List Datum) (d : Datum) (ds : Data) → front_of (front ++ d ∷ []) ds ≡ front_of front (more d ds)
front_more [] d ds = refl
front_more (e ∷ front) d ds = ap (more e) (front_more front d ds)

regroup : (front : List Datum) (d : Datum) (took : Took Data) → with_front front (took >>= λ ds es. done (more d ds) es) ≡ with_front (front ++ d ∷ []) took
regroup front d (Some y) = ap (λ ds. Some (ds, y.1)) (sym (front_more front d y.0))
regroup front d None = refl

pub goes_on : (front : List Datum) (one : List Event → Took Datum) (others : List Event → Took Data) (d : Datum) (es rest : List Event) (total : Took Data)
    → one es ≡ Some (d, rest) → with_front front (then_more one others es) ≡ total → with_front (front ++ d ∷ []) (others rest) ≡ total
goes_on front one others d es rest total e so_far = sym (regroup front d (others rest)) ∙ (rw e at so_far)

pub many_more : (one : List Event → Took Datum) (n i : ℕ) (es : List Event) → i < n → many one (n - i) es ≡ then_more one (many one (n - (i + 1))) es
many_more one n i es lt = let k : n - i ≡ suc (n - (i + 1)) = omega arith in rw k refl

some_first : {A B : Type 0} (x : Took A) (f : A → List Event → Took B) → is_some (x >>= f) ≡ true → is_some x ≡ true
some_first (Some x) f h = refl
some_first None f h = h

pub some_one : (front : List Datum) (one : List Event → Took Datum) (others : List Event → Took Data) (es : List Event) (total : Took Data)
    → with_front front (then_more one others es) ≡ total → is_some total ≡ true → is_some (one es) ≡ true
some_one front one others es total e h =
    some_first (one es) (λ d es. others es >>= λ ds es. done (more d ds) es) (some_first (then_more one others es) (λ ds es. done (front_of front ds) es) (ap is_some e ∙ h))

pub each_more : {A : Type 0} (means : A → Datum) (one : Datum → List Event) (xs : List A) (i : ℕ) (x : A) → i < length xs → x ≡ get_or xs i x
    → each_events one (data_of (map means (drop i xs))) ≡ one (means x) ++ each_events one (data_of (map means (drop (i + 1) xs)))
each_more means one xs i x lt is =
    let e : drop i xs ≡ x ∷ drop (i + 1) xs = drop_more xs i x lt ∙ ap (λ y. y ∷ drop (i + 1) xs) (sym is) in
    ap (λ ys. each_events one (data_of (map means ys))) e

pub each_done : {A : Type 0} (means : A → Datum) (one : Datum → List Event) (xs : List A) (i : ℕ) → length xs ≤ i → each_events one (data_of (map means (drop i xs))) ≡ []
each_done means one xs i le = ap (λ ys. each_events one (data_of (map means ys))) (drop_all i xs le)

pub is_done : (front : List Datum) (one : List Event → Took Datum) (n i : ℕ) (es : List Event) (total : Took Data) → n ≤ i → with_front front (many one (n - i) es) ≡ total → total ≡ Some (data_of front, es)
is_done front one n i es total le so_far = let k : n - i ≡ 0 = omega arith in sym so_far ∙ rw k refl

pub count_means : {A : Type 0} (means : A → Datum) (xs : List A) → count (data_of (map means xs)) ≡ length xs
count_means means [] = refl
count_means means (x ∷ xs) = omega (arith, count_means means xs)
