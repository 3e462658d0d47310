-- Counting in lists, and sums over places.
use Rattle.std.proofs.Common.{◌≡◌, ℕ, zero, suc, ◌+◌, ◌≤◌, ◌<◌, ◌==◌, ap, Bool, true, false, not, List, [], ◌∷◌, ◌++◌, filter, count_by, cond, refl, arith}
use Rattle.std.proofs.lemmas.Bool.Decides.{nat_tests}
use Rattle.std.proofs.lemmas.List.Sums.{sum_by-cons}
use Rattle.caf_response.specs.Lines.{put_in}
use Rattle.caf_actor.specs.Record.{sum_below}
use Rattle.caf_actor.specs.Resolutions.{given_between}

-- ---- counting

abbrev pub one : Bool → ℕ
one b = cond b 1 0

module _ {A : Type 0} (test : A → Bool) where
  pub count-cons : (x : A) (xs : List A) → count_by test (x ∷ xs) ≡ one (test x) + count_by test xs
  count-cons x xs = sum_by-cons (λ y. one (test y)) x xs

  pub count-append : (xs ys : List A) → count_by test (xs ++ ys) ≡ count_by test xs + count_by test ys
  count-append [] ys = omega arith
  count-append (x ∷ xs) ys = let rest = count-append xs ys in let all = count-cons x (xs ++ ys) in let less = count-cons x xs in omega arith

  pub count-last : (xs : List A) (x : A) → count_by test (xs ++ x ∷ []) ≡ count_by test xs + one (test x)
  count-last xs x = let all = count-append xs (x ∷ []) in let last = count-cons x [] in omega arith

  pub count-put : (before : A → A → Bool) (xs : List A) (x : A) → count_by test (put_in before xs x) ≡ one (test x) + count_by test xs
  count-put before [] x = count-cons x []
  count-put before (y ∷ ys) x = go (before x y) refl (count-put before ys x)
    where
      go : (b : Bool) → before x y ≡ b → count_by test (put_in before ys x) ≡ one (test x) + count_by test ys → count_by test (put_in before (y ∷ ys) x) ≡ one (test x) + count_by test (y ∷ ys)
      go true e h = rw e (count-cons x (y ∷ ys))
      go false e h = rw e (let all = count-cons y (put_in before ys x) in let less = count-cons y ys in omega arith)

  -- those that pass another test, and those that don't
  pub count-parts : (first : A → Bool) (xs : List A) → count_by test (filter first xs) + count_by test (filter (λ x. not (first x)) xs) ≡ count_by test xs
  count-parts first [] = omega arith
  count-parts first (x ∷ xs) = go (first x) refl (count-parts first xs)
    where
      go : (b : Bool) → first x ≡ b → count_by test (filter first xs) + count_by test (filter (λ x. not (first x)) xs) ≡ count_by test xs
          → count_by test (filter first (x ∷ xs)) + count_by test (filter (λ x. not (first x)) (x ∷ xs)) ≡ count_by test (x ∷ xs)
      go true e h = rw e (let yes = count-cons x (filter first xs) in let all = count-cons x xs in omega arith)
      go false e h = rw e (let no = count-cons x (filter (λ x. not (first x)) xs) in let all = count-cons x xs in omega arith)

-- ---- only where it is the own place

abbrev pub when_own : Bool → ℕ → ℕ
when_own true k = k
when_own false k = 0

pub own-plus : (own : Bool) (k j : ℕ) → when_own own (k + j) ≡ when_own own k + when_own own j
own-plus true k j = refl
own-plus false k j = refl

pub own-none : (own : Bool) → when_own own 0 ≡ 0
own-none true = refl
own-none false = refl

-- ---- numbers that are given

pub none_given : (next n : ℕ) → given_between next next n ≡ 0
none_given next n = grind (arith, nat_tests)

pub one_given : (first next n : ℕ) → first ≤ next → given_between first (next + 1) n ≡ given_between first next n + one (next == n)
one_given first next n h = grind (arith, nat_tests)

pub more_given : (first next later n : ℕ) → first ≤ next → next ≤ later → given_between first later n ≡ given_between first next n + given_between next later n
more_given first next later n h k = grind (arith, nat_tests)

pub given_most : (first next n : ℕ) → given_between first next n ≤ 1
given_most first next n = grind (arith, nat_tests)

-- ---- sums over places

pub sum_same : (k : ℕ) (f g : ℕ → ℕ) → ((i : ℕ) → i < k → f i ≡ g i) → sum_below k f ≡ sum_below k g
sum_same zero f g h = refl
sum_same (suc k) f g h =
    let rest = sum_same k f g (λ i less. h i (omega arith)) in
    let last : f k ≡ g k = h k (omega arith) in
    omega arith

pub sum_less : (k : ℕ) (f g : ℕ → ℕ) → ((i : ℕ) → i < k → f i ≤ g i) → sum_below k f ≤ sum_below k g
sum_less zero f g h = omega arith
sum_less (suc k) f g h =
    let rest = sum_less k f g (λ i less. h i (omega arith)) in
    let last : f k ≤ g k = h k (omega arith) in
    omega arith

pub sum_plus : (k : ℕ) (f g : ℕ → ℕ) → sum_below k (λ i. f i + g i) ≡ sum_below k f + sum_below k g
sum_plus zero f g = refl
sum_plus (suc k) f g = let rest = sum_plus k f g in omega arith

pub sum_none : (k : ℕ) (f : ℕ → ℕ) → ((i : ℕ) → i < k → f i ≡ 0) → sum_below k f ≡ 0
sum_none zero f h = refl
sum_none (suc k) f h =
    let rest = sum_none k f (λ i less. h i (omega arith)) in
    let last : f k ≡ 0 = h k (omega arith) in
    omega arith

not_same : (i j : ℕ) → i < j → (i == j) ≡ false
not_same i j h = grind (arith, nat_tests)

pub self_same : (i : ℕ) → (i == i) ≡ true
self_same i = grind (arith, nat_tests)

pub same_number : (i j : ℕ) → (i == j) ≡ true → i ≡ j
same_number i j h = grind (arith, nat_tests)

-- two that differ at one place alone
pub sum_but : (k place : ℕ) (f g : ℕ → ℕ) → place < k → ((i : ℕ) → (i == place) ≡ false → f i ≡ g i) → sum_below k f + g place ≡ sum_below k g + f place
sum_but zero place f g below h = absurd (omega arith)
sum_but (suc k) place f g below h = go (k == place) refl (sum_but k place f g)
  where
    go : (b : Bool) → (k == place) ≡ b → (place < k → ((i : ℕ) → (i == place) ≡ false → f i ≡ g i) → sum_below k f + g place ≡ sum_below k g + f place)
        → sum_below (suc k) f + g place ≡ sum_below (suc k) g + f place
    go true e later =
        let here : k ≡ place = same_number k place e in
        let rest : sum_below k f ≡ sum_below k g = sum_same k f g (λ i less. h i (not_same i place (omega arith))) in
        let f_here : f k ≡ f place = ap f here in
        let g_here : g k ≡ g place = ap g here in
        omega arith
    go false e later =
        let less : place < k = grind (arith, nat_tests) in
        let rest = later less h in
        let last : f k ≡ g k = h k e in
        omega arith

-- one place alone
pub sum_one : (k place x : ℕ) → place < k → sum_below k (λ i. cond (i == place) x 0) ≡ x
sum_one k place x below =
    let none : sum_below k (λ i. 0) ≡ 0 = sum_none k (λ i. 0) (λ i less. refl) in
    let both = sum_but k place (λ i. cond (i == place) x 0) (λ i. 0) below (λ i e. rw e refl) in
    let here : cond (place == place) x 0 ≡ x = rw (self_same place) refl in
    omega arith

-- each is at most all
pub sum_at : (k place : ℕ) (f : ℕ → ℕ) → place < k → f place ≤ sum_below k f
sum_at k place f below =
    let one = sum_one k place (f place) below in
    let less : sum_below k (λ i. cond (i == place) (f place) 0) ≤ sum_below k f = sum_less k (λ i. cond (i == place) (f place) 0) f (λ i h. go i (i == place) refl) in
    omega arith
  where
    go : (i : ℕ) (b : Bool) → (i == place) ≡ b → cond (i == place) (f place) 0 ≤ f i
    go i true e = let here : i ≡ place = same_number i place e in let same : f i ≡ f place = ap f here in rw e (omega arith)
    go i false e = rw e (omega arith)
