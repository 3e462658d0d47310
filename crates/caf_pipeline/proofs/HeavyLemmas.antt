-- Lists whose items all weigh the same: sums over places, and over the senders of envelopes.
use Rattle.std.proofs.Common.{◌≡◌, ℕ, zero, suc, ◌+◌, ◌≤◌, ◌<◌, ◌==◌, Bool, true, false, List, [], ◌∷◌, ◌++◌, length, filter, not, cond, inl, inr, refl, sym, ap, ◌∙◌, arith}
use Rattle.std.specs.Prelude.{◌⊎◌}
use Rattle.std.specs.List.{AllByRecursion}
use Rattle.std.proofs.lemmas.Bool.Decides.{nat_tests}
use Rattle.caf_message.specs.Envelope.{outside}
use Rattle.caf_message.specs.declared.envelope.Taken.{Taken}
use Rattle.caf_actor.specs.Record.{IsPrefix, from_place, sum_below}
use Rattle.caf_carriers.proofs.CountLemmas.{sum_same, sum_plus, sum_none, sum_one, self_same, same_number}
use Rattle.caf_carriers.proofs.TotalLemmas.{eq_comm}

-- ---- lists whose items all weigh the same

abbrev pub heavy : {A : Type 0} → ℕ → List A → ℕ
heavy w [] = 0
heavy w (x ∷ xs) = w + heavy w xs

pub heavy_append : {A : Type 0} (w : ℕ) (xs ys : List A) → heavy w (xs ++ ys) ≡ heavy w xs + heavy w ys
heavy_append w [] ys = omega arith
heavy_append w (x ∷ xs) ys = let rest = heavy_append w xs ys in omega (arith, rest)

pub heavy_next : {A : Type 0} (w : ℕ) (xs : List A) → heavy (suc w) xs ≡ length xs + heavy w xs
heavy_next w [] = omega arith
heavy_next w (x ∷ xs) = let rest = heavy_next w xs in omega (arith, rest)

pub heavy_prefix : (w : ℕ) (xs ys : List Taken) → IsPrefix xs ys → heavy w xs ≤ heavy w ys
heavy_prefix w xs ys first =
    let parts = heavy_append w xs first.0 in
    let all = ap (λ (es : List Taken). heavy w es) first.1 in
    omega (arith, parts, all)

pub parts_weigh : {A : Type 0} (test : A → Bool) (w : ℕ) (xs : List A) → heavy w (filter test xs) + heavy w (filter (λ x. not (test x)) xs) ≡ heavy w xs
parts_weigh test w [] = omega arith
parts_weigh {A} test w (x ∷ xs) = go (test x) refl (parts_weigh test w xs)
  where
    go : (b : Bool) → test x ≡ b → heavy w (filter test xs) + heavy w (filter (λ x. not (test x)) xs) ≡ heavy w xs
        → heavy w (filter test (x ∷ xs)) + heavy w (filter (λ x. not (test x)) (x ∷ xs)) ≡ heavy w (x ∷ xs)
    go true q rest = rw q (omega (arith, rest))
    go false q rest = rw q (omega (arith, rest))

-- ---- sums over places

pub sum_most : (n place x : ℕ) → sum_below n (λ i. cond (i == place) x 0) ≤ x
sum_most zero place x = omega arith
sum_most (suc n) place x = go (n == place) refl (sum_most n place x)
  where
    go : (b : Bool) → (n == place) ≡ b → sum_below n (λ i. cond (i == place) x 0) ≤ x → sum_below (suc n) (λ i. cond (i == place) x 0) ≤ x
    go true q rest =
        let none : sum_below n (λ i. cond (i == place) x 0) ≡ 0 = sum_none n (λ i. cond (i == place) x 0) (λ i less. (let other : (i == place) ≡ false = grind (arith, nat_tests) in rw other refl)) in
        let last : cond (n == place) x 0 ≡ x = rw q refl in
        omega (arith, none, last)
    go false q rest = let last : cond (n == place) x 0 ≡ 0 = rw q refl in omega (arith, rest, last)

pub sum_swap : (n m : ℕ) (f : ℕ → ℕ → ℕ) → sum_below n (λ b. sum_below m (λ a. f a b)) ≡ sum_below m (λ a. sum_below n (λ b. f a b))
sum_swap zero m f = sym (sum_none m (λ a. 0) (λ i less. refl))
sum_swap (suc n) m f =
    let rest = sum_swap n m f in
    let both = sum_plus m (λ a. sum_below n (λ b. f a b)) (λ a. f a n) in
    omega (arith, rest, both)

-- ---- by sender

pub by_sender : (n w : ℕ) (es : List Taken) → AllByRecursion (λ e. (e.sender < n) ⊎ (outside ≡ e.sender)) es
    → heavy w es ≤ sum_below n (λ a. heavy w (from_place a es)) + heavy w (from_place outside es)
by_sender n w [] all = omega arith
by_sender n w (e ∷ es) all = go all.0 (by_sender n w es all.1)
  where
    from_one : (a : ℕ) (b : Bool) → (a == e.sender) ≡ b → heavy w (from_place a (e ∷ es)) ≡ cond (a == e.sender) w 0 + heavy w (from_place a es)
    from_one a true q = let r : (e.sender == a) ≡ true = eq_comm e.sender a ∙ q in rw (r, q) refl
    from_one a false q = let r : (e.sender == a) ≡ false = eq_comm e.sender a ∙ q in rw (r, q) (omega arith)

    sums : sum_below n (λ a. heavy w (from_place a (e ∷ es))) ≡ sum_below n (λ a. cond (a == e.sender) w 0) + sum_below n (λ a. heavy w (from_place a es))
    sums =
        sum_same n (λ a. heavy w (from_place a (e ∷ es))) (λ a. cond (a == e.sender) w 0 + heavy w (from_place a es)) (λ a less. from_one a (a == e.sender) refl)
        ∙ sum_plus n (λ a. cond (a == e.sender) w 0) (λ a. heavy w (from_place a es))

    go : (e.sender < n) ⊎ (outside ≡ e.sender) → heavy w es ≤ sum_below n (λ a. heavy w (from_place a es)) + heavy w (from_place outside es)
        → heavy w (e ∷ es) ≤ sum_below n (λ a. heavy w (from_place a (e ∷ es))) + heavy w (from_place outside (e ∷ es))
    go (inl inside) rest =
        let it = sum_one n e.sender w inside in
        let last = from_one outside (outside == e.sender) refl in
        let both = sums in
        omega (arith, rest, it, last, both)
    go (inr here) rest =
        let yes : (outside == e.sender) ≡ true = grind (arith, nat_tests, here) in
        let it : cond (outside == e.sender) w 0 ≡ w = rw yes refl in
        let last = from_one outside (outside == e.sender) refl in
        let both = sums in
        omega (arith, rest, it, last, both)

pub all_senders : (P : Taken → Type 0) (es : List Taken) → ((a : ℕ) → AllByRecursion P (from_place a es)) → AllByRecursion P es
all_senders P [] each = tt
all_senders P (e ∷ es) each =
    (let here : AllByRecursion P (e ∷ from_place e.sender es) = rw (self_same e.sender) at (each e.sender) in here.0, all_senders P es (λ a. later a (e.sender == a) refl))
  where
    later : (a : ℕ) (b : Bool) → (e.sender == a) ≡ b → AllByRecursion P (from_place a es)
    later a true q = let both : AllByRecursion P (e ∷ from_place a es) = rw q at (each a) in both.1
    later a false q = rw q at (each a)

pub are_from : (a : ℕ) (es : List Taken) → AllByRecursion (λ e. e.sender ≡ a) (from_place a es)
are_from a [] = tt
are_from a (e ∷ es) = go (e.sender == a) refl (are_from a es)
  where
    go : (b : Bool) → (e.sender == a) ≡ b → AllByRecursion (λ x. x.sender ≡ a) (from_place a es) → AllByRecursion (λ x. x.sender ≡ a) (from_place a (e ∷ es))
    go true q rest = rw q (same_number e.sender a q, rest)
    go false q rest = rw q rest
