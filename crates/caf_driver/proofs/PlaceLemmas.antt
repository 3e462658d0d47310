-- What is put into a list of places and taken out of it.
use Rattle.std.proofs.Common.{◌≡◌, ◌≢◌, ℕ, suc, ◌+◌, ◌<◌, ◌≤◌, ◌==◌, ◌&&◌, ◌||◌, not, nat_lt, Bool, true, false, List, [], ◌∷◌, ◌++◌, length, slice_index_or, refl, ap, sym, ◌∙◌, subst, arith, insert, remove}
use Rattle.std.specs.List.{AllByRecursion, prefix_len}
use Rattle.std.proofs.lemmas.Bool.Decides.{nat_tests}
use Rattle.caf_driver.specs.Places.{IsRising, has_place, place_in, place_out, first_of, chosen, next_past}

pub insert_is : (place : ℕ) (xs : List ℕ) → insert xs (prefix_len (λ x. nat_lt x place) xs) place ≡ place_in place xs
insert_is place [] = refl
insert_is place (x ∷ xs) = go (nat_lt x place) refl (insert_is place xs)
  where
    go : (b : Bool) → nat_lt x place ≡ b → insert xs (prefix_len (λ x. nat_lt x place) xs) place ≡ place_in place xs → insert (x ∷ xs) (prefix_len (λ x. nat_lt x place) (x ∷ xs)) place ≡ place_in place (x ∷ xs)
    go true q h =
        let n : ℕ = prefix_len (λ x. nat_lt x place) xs in
        let next : suc n ≡ 1 + n = omega arith in
        let same : insert (x ∷ xs) (suc n) place ≡ x ∷ place_in place xs = ap (λ ys. x ∷ ys) h in
        rw q (subst (λ k. insert (x ∷ xs) k place ≡ x ∷ place_in place xs) next same)
    go false q h = rw q refl

pub has_in : (place : ℕ) (xs : List ℕ) (q : ℕ) → has_place (place_in place xs) q ≡ ((place == q) || has_place xs q)
has_in place [] q = refl
has_in place (x ∷ xs) q = go (nat_lt x place) refl (has_in place xs q)
  where
    swap : (a b c : Bool) → (a || (b || c)) ≡ (b || (a || c))
    swap true true c = refl
    swap true false c = refl
    swap false true c = refl
    swap false false c = refl

    go : (b : Bool) → nat_lt x place ≡ b → has_place (place_in place xs) q ≡ ((place == q) || has_place xs q) → has_place (place_in place (x ∷ xs)) q ≡ ((place == q) || has_place (x ∷ xs) q)
    go true e h = rw e (ap (λ b. (x == q) || b) h ∙ swap (x == q) (place == q) (has_place xs q))
    go false e h = rw e refl

all_in : (P : ℕ → Type 0) (place : ℕ) (xs : List ℕ) → P place → AllByRecursion P xs → AllByRecursion P (place_in place xs)
all_in P place [] h all = (h, tt)
all_in P place (x ∷ xs) h all = go (nat_lt x place) refl (all_in P place xs h all.1)
  where
    go : (b : Bool) → nat_lt x place ≡ b → AllByRecursion P (place_in place xs) → AllByRecursion P (place_in place (x ∷ xs))
    go true e k = rw e (all.0, k)
    go false e k = rw e (h, all)

all_past : (low high : ℕ) → low < high → (xs : List ℕ) → AllByRecursion (λ y. high < y) xs → AllByRecursion (λ y. low < y) xs
all_past low high lt [] all = tt
all_past low high lt (x ∷ xs) all = let h = all.0 in (omega arith, all_past low high lt xs all.1)

pub rising_in : (place : ℕ) (xs : List ℕ) → IsRising xs → has_place xs place ≡ false → IsRising (place_in place xs)
rising_in place [] r none = (tt, tt)
rising_in place (x ∷ xs) r none = go (x == place) refl none (nat_lt x place) refl (rising_in place xs r.1)
  where
    go : (c : Bool) → (x == place) ≡ c → (c || has_place xs place) ≡ false → (b : Bool) → nat_lt x place ≡ b → (has_place xs place ≡ false → IsRising (place_in place xs)) → IsRising (place_in place (x ∷ xs))
    go true e n b q h = cc
    go false e n true q h =
        let less : x < place = grind (arith, nat_tests) in
        rw q (all_in (λ y. x < y) place xs less r.0, h n)
    go false e n false q h =
        let less : place < x = grind (arith, nat_tests) in
        rw q ((less, all_past place x less xs r.0), r)

pub has_out : (place : ℕ) (xs : List ℕ) (q : ℕ) → has_place (place_out place xs) q ≡ (not (q == place) && has_place xs q)
has_out place [] q = go (q == place)
  where
    go : (b : Bool) → false ≡ (not b && false)
    go true = refl
    go false = refl
has_out place (x ∷ xs) q = go (x == place) refl (x == q) refl (q == place) refl (has_out place xs q)
  where
    go : (b : Bool) → (x == place) ≡ b → (c : Bool) → (x == q) ≡ c → (d : Bool) → (q == place) ≡ d → has_place (place_out place xs) q ≡ (not (q == place) && has_place xs q) → has_place (place_out place (x ∷ xs)) q ≡ (not (q == place) && has_place (x ∷ xs) q)
    go true e true f true g h = rw (e, f, g) (rw g at h)
    go true e true f false g h = let no : ⊥ = grind (arith, nat_tests) in absurd no
    go true e false f d g h = rw (e, f) h
    go false e true f true g h = let no : ⊥ = grind (arith, nat_tests) in absurd no
    go false e true f false g h = rw (e, f, g) refl
    go false e false f d g h = rw (e, f) h

all_filter : (P : ℕ → Type 0) (place : ℕ) (xs : List ℕ) → AllByRecursion P xs → AllByRecursion P (place_out place xs)
all_filter P place [] all = tt
all_filter P place (x ∷ xs) all = go (x == place) refl (all_filter P place xs all.1)
  where
    go : (b : Bool) → (x == place) ≡ b → AllByRecursion P (place_out place xs) → AllByRecursion P (place_out place (x ∷ xs))
    go true e k = rw e k
    go false e k = rw e (all.0, k)

pub rising_out : (place : ℕ) (xs : List ℕ) → IsRising xs → IsRising (place_out place xs)
rising_out place [] r = tt
rising_out place (x ∷ xs) r = go (x == place) refl (rising_out place xs r.1)
  where
    go : (b : Bool) → (x == place) ≡ b → IsRising (place_out place xs) → IsRising (place_out place (x ∷ xs))
    go true e k = rw e k
    go false e k = rw e (all_filter (λ y. x < y) place xs r.0, k)

-- all that is greater stays
out_none : (place low : ℕ) → place ≤ low → (xs : List ℕ) → AllByRecursion (λ y. low < y) xs → (place_out place xs ≡ xs) × (has_place xs place ≡ false)
out_none place low le [] all = (refl, refl)
out_none place low le (x ∷ xs) all =
    let more = all.0 in
    let no : (x == place) ≡ false = grind (arith, nat_tests) in
    let rest = out_none place low le xs all.1 in
    (rw no (ap (λ ys. x ∷ ys) rest.0), rw no rest.1)

pub remove_is : (place : ℕ) (xs : List ℕ) → IsRising xs → has_place xs place ≡ true → remove xs (prefix_len (λ x. nat_lt x place) xs) ≡ place_out place xs
remove_is place [] r has = cc
remove_is place (x ∷ xs) r has = go (nat_lt x place) refl (x == place) refl has (remove_is place xs r.1)
  where
    go : (b : Bool) → nat_lt x place ≡ b → (c : Bool) → (x == place) ≡ c → (c || has_place xs place) ≡ true → (has_place xs place ≡ true → remove xs (prefix_len (λ x. nat_lt x place) xs) ≡ place_out place xs) → remove (x ∷ xs) (prefix_len (λ x. nat_lt x place) (x ∷ xs)) ≡ place_out place (x ∷ xs)
    go true q true e h on = let no : ⊥ = grind (arith, nat_tests) in absurd no
    go true q false e h on =
        let n : ℕ = prefix_len (λ x. nat_lt x place) xs in
        let next : suc n ≡ 1 + n = omega arith in
        let same : remove (x ∷ xs) (suc n) ≡ x ∷ place_out place xs = ap (λ ys. x ∷ ys) (on h) in
        rw (q, e) (subst (λ k. remove (x ∷ xs) k ≡ x ∷ place_out place xs) next same)
    go false q true e h on =
        let le : place ≤ x = grind (arith, nat_tests) in
        rw (q, e) (sym (out_none place x le xs r.0).0)
    go false q false e h on =
        let le : place ≤ x = grind (arith, nat_tests) in
        let none : has_place xs place ≡ false = (out_none place x le xs r.0).1 in
        let no : false ≡ true = sym none ∙ h in cc

-- the place stands behind those that are less
pub bound_of : (place : ℕ) (xs : List ℕ) → has_place xs place ≡ true → IsRising xs → prefix_len (λ x. nat_lt x place) xs < length xs
bound_of place [] has r = cc
bound_of place (x ∷ xs) has r = go (nat_lt x place) refl (x == place) refl has (λ h. bound_of place xs h r.1)
  where
    go : (b : Bool) → nat_lt x place ≡ b → (c : Bool) → (x == place) ≡ c → (c || has_place xs place) ≡ true → (has_place xs place ≡ true → prefix_len (λ x. nat_lt x place) xs < length xs) → prefix_len (λ x. nat_lt x place) (x ∷ xs) < length (x ∷ xs)
    go true q true e h on = let no : ⊥ = grind (arith, nat_tests) in absurd no
    go true q false e h on = let less = on h in rw q (omega arith)
    go false q c e h on = rw q (omega arith)

self_place : (n : ℕ) → (n == n) ≡ true
self_place n = grind (arith, nat_tests)

pub chosen_has : (offered : List ℕ) (choice : ℕ) → offered ≢ [] → has_place offered (chosen offered choice) ≡ true
chosen_has [] choice some = absurd (some refl)
chosen_has (x ∷ xs) choice some = go (has_place (x ∷ xs) choice) refl
  where
    go : (b : Bool) → has_place (x ∷ xs) choice ≡ b → has_place (x ∷ xs) (chosen (x ∷ xs) choice) ≡ true
    go true q =
        let same : chosen (x ∷ xs) choice ≡ choice = rw q refl in
        subst (λ c. has_place (x ∷ xs) c ≡ true) (sym same) q
    go false q =
        let same : chosen (x ∷ xs) choice ≡ x = rw q refl in
        subst (λ c. has_place (x ∷ xs) c ≡ true) (sym same) (rw (self_place x) refl)

-- ---- the next place, round the places

abbrev pub count_to : ℕ → List ℕ → ℕ
count_to place xs = prefix_len (λ p. not (nat_lt place p)) xs

pub next_at : (place : ℕ) (xs ys : List ℕ) (d : ℕ) → count_to place xs < length xs → first_of (next_past place xs ++ ys) ≡ slice_index_or xs (count_to place xs) d
next_at place [] ys d lt = absurd (omega arith)
next_at place (x ∷ xs) ys d lt = go (nat_lt place x) refl (next_at place xs ys d)
  where
    go : (b : Bool) → nat_lt place x ≡ b → (count_to place xs < length xs → first_of (next_past place xs ++ ys) ≡ slice_index_or xs (count_to place xs) d) → first_of (next_past place (x ∷ xs) ++ ys) ≡ slice_index_or (x ∷ xs) (count_to place (x ∷ xs)) d
    go true q on = rw q refl
    go false q on =
        let n : ℕ = count_to place xs in
        let next : suc n ≡ 1 + n = omega arith in
        let more : count_to place (x ∷ xs) ≡ 1 + n = rw q refl in
        let less : n < length xs = omega arith in
        rw q (on less ∙ ap (λ k. slice_index_or (x ∷ xs) k d) next)

pub next_none : (place : ℕ) (xs : List ℕ) → length xs ≤ count_to place xs → next_past place xs ≡ []
next_none place [] le = refl
next_none place (x ∷ xs) le = go (nat_lt place x) refl (next_none place xs)
  where
    go : (b : Bool) → nat_lt place x ≡ b → (length xs ≤ count_to place xs → next_past place xs ≡ []) → next_past place (x ∷ xs) ≡ []
    go true q on =
        let none : count_to place (x ∷ xs) ≡ 0 = rw q refl in
        absurd (omega arith)
    go false q on =
        let more : count_to place (x ∷ xs) ≡ 1 + count_to place xs = rw q refl in
        rw q (on (omega arith))

pub first_at : (xs : List ℕ) (d : ℕ) → xs ≢ [] → first_of xs ≡ slice_index_or xs 0 d
first_at [] d some = absurd (some refl)
first_at (x ∷ xs) d some = refl
