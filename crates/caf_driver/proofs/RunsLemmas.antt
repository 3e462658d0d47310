-- Runs of senders: a batch that they name is looked at, and taken, run by run.
use Rattle.std.proofs.Common.{◌≡◌, ◌≢◌, ℕ, zero, suc, ◌+◌, ◌-◌, ◌<◌, ◌≤◌, ◌==◌, ◌&&◌, ◌||◌, not, nat_lt, Bool, true, false, List, [], ◌∷◌, ◌++◌, length, map, slice_index_or, slice_set, take, drop, refl, ap, sym, ◌∙◌, subst, arith, if◌then◌else◌}
use Rattle.std.specs.List.{list_any}
use Rattle.std.proofs.Math.Path.{fun_ext}
use Rattle.std.proofs.lemmas.Bool.Decides.{nat_tests}
use Rattle.std.proofs.lemmas.List.{get_or-set_same, get_or-set_other, take_more}
use Rattle.std.proofs.Math.Seq.{take-add}
use Rattle.std.proofs.lemmas.List.Folds.{list_any-append}
use Rattle.caf_types.specs.Limits.{latest_stamp}
use Rattle.caf_message.specs.declared.envelope.Taken.{Taken}
use Rattle.caf_driver.specs.declared.sender_run.SenderRun.{SenderRun}
use Rattle.caf_driver.specs.Places.{is_filled}
use Rattle.caf_driver.specs.Arrivals.{Arriving, from_sender, has_last}
use Rattle.caf_driver.specs.Runs.{taken_by_run, is_next, without_run, taken_by_runs, are_next, is_batch, is_offered_run, are_offered, count_at, left_past, HasCounts}

same_of : (a b : ℕ) → (a == b) ≡ true → a ≡ b
same_of a b q = grind (arith, nat_tests)

other_of : (a b : ℕ) → (a == b) ≡ false → a ≢ b
other_of a b q e = let no : ⊥ = grind (arith, nat_tests) in no

-- ---- lists

module _ {A : Type 0} where
  pub drop_none : (n : ℕ) → drop {A = A} n [] ≡ []
  drop_none zero = refl
  drop_none (suc n) = refl

  pub take_none : (n : ℕ) → take {A = A} n [] ≡ []
  take_none zero = refl
  take_none (suc n) = refl

  pub drop_more : (n m : ℕ) (xs : List A) → drop (n + m) xs ≡ drop m (drop n xs)
  drop_more zero m xs = let same : 0 + m ≡ m = omega arith in ap (λ k. drop k xs) same
  drop_more (suc n) m [] = drop_none (suc n + m) ∙ sym (drop_none m)
  drop_more (suc n) m (x ∷ xs) = let next : suc n + m ≡ suc (n + m) = omega arith in ap (λ k. drop k (x ∷ xs)) next ∙ drop_more n m xs

  pub length_drop : (n : ℕ) (xs : List A) → length (drop n xs) ≡ length xs - n
  length_drop zero xs = omega arith
  length_drop (suc n) [] = omega arith
  length_drop (suc n) (x ∷ xs) = let h = length_drop n xs in omega arith

  pub filled_append : (xs ys : List A) → is_filled (xs ++ ys) ≡ (is_filled xs || is_filled ys)
  filled_append [] ys = refl
  filled_append (x ∷ xs) ys = refl

  pub drop_some : (n : ℕ) (xs : List A) → n < length xs → drop n xs ≢ []
  drop_some n [] lt e = absurd (omega arith)
  drop_some zero (x ∷ xs) lt e = cc
  drop_some (suc n) (x ∷ xs) lt e = drop_some n xs (omega arith) e

  -- the next one of those that are left
  pub take_next : (n : ℕ) (xs rest : List A) (x : A) → x ∷ rest ≡ drop n xs → take (n + 1) xs ≡ take n xs ++ x ∷ []
  take_next zero [] rest x q = cc
  take_next zero (y ∷ xs) rest x q = let same : y ≡ x = cc in ap (λ z. z ∷ []) same
  take_next (suc n) [] rest x q = cc
  take_next (suc n) (y ∷ xs) rest x q = let next : suc n + 1 ≡ suc (n + 1) = omega arith in ap (λ k. take k (y ∷ xs)) next ∙ ap (λ zs. y ∷ zs) (take_next n xs rest x q)

  pub drop_next : (n : ℕ) (xs rest : List A) (x : A) → x ∷ rest ≡ drop n xs → drop (n + 1) xs ≡ rest
  drop_next zero [] rest x q = cc
  drop_next zero (y ∷ xs) rest x q = let same : xs ≡ rest = cc in same
  drop_next (suc n) [] rest x q = cc
  drop_next (suc n) (y ∷ xs) rest x q = let next : suc n + 1 ≡ suc (n + 1) = omega arith in ap (λ k. drop k (y ∷ xs)) next ∙ drop_next n xs rest x q

  pub drop_first : (xs : List A) (i : ℕ) (x : A) → x ≡ slice_index_or xs i x → i < length xs → drop i xs ≡ x ∷ drop (i + 1) xs
  drop_first [] i x e lt = absurd (omega arith)
  drop_first (y ∷ xs) zero x e lt = ap (λ z. z ∷ xs) (sym e)
  drop_first (y ∷ xs) (suc i) x e lt = let next : suc i + 1 ≡ suc (i + 1) = omega arith in drop_first xs i x e (omega arith) ∙ ap (λ k. x ∷ drop k (y ∷ xs)) (sym next)

  pub drop_at : (xs : List A) (i : ℕ) (d : A) → i < length xs → drop i xs ≡ slice_index_or xs i d ∷ drop (i + 1) xs
  drop_at [] i d lt = absurd (omega arith)
  drop_at (y ∷ xs) zero d lt = refl
  drop_at (y ∷ xs) (suc i) d lt = let next : suc i + 1 ≡ suc (i + 1) = omega arith in drop_at xs i d (omega arith) ∙ ap (λ k. slice_index_or xs i d ∷ drop k (y ∷ xs)) (sym next)

  -- what stands there, whatever would stand past the end
  pub read_at : (xs : List A) (i : ℕ) (x d : A) → x ≡ slice_index_or xs i x → i < length xs → slice_index_or xs i d ≡ x
  read_at [] i x d e lt = absurd (omega arith)
  read_at (y ∷ xs) zero x d e lt = sym e
  read_at (y ∷ xs) (suc i) x d e lt = read_at xs i x d e (omega arith)

  pub any_next : (p : A → Bool) (xs : List A) (i : ℕ) (d : A) → i < length xs → list_any p (take (i + 1) xs) ≡ (list_any p (take i xs) || p (slice_index_or xs i d))
  any_next p xs i d less =
      ap (list_any p) (take_more xs i d less) ∙ list_any-append p (take i xs) (slice_index_or xs i d ∷ []) ∙ ap (λ b. list_any p (take i xs) || b) (or_false (p (slice_index_or xs i d)))
    where
      or_false : (b : Bool) → (b || false) ≡ b
      or_false true = refl
      or_false false = refl

  pub drop_past : (n : ℕ) (xs : List A) → length xs ≤ n → drop n xs ≡ []
  drop_past n [] le = drop_none n
  drop_past zero (x ∷ xs) le = absurd (omega arith)
  drop_past (suc n) (x ∷ xs) le = drop_past n xs (omega arith)

  pub at_past : (xs : List A) (i : ℕ) (d : A) → length xs ≤ i → slice_index_or xs i d ≡ d
  at_past [] i d le = refl
  at_past (x ∷ xs) zero d le = absurd (omega arith)
  at_past (x ∷ xs) (suc i) d le = at_past xs i d (omega arith)

pub map_drop : {A B : Type 0} (f : A → B) (n : ℕ) (xs : List A) → drop n (map f xs) ≡ map f (drop n xs)
map_drop f zero xs = refl
map_drop f (suc n) [] = refl
map_drop f (suc n) (x ∷ xs) = map_drop f n xs

pub map_take : {A B : Type 0} (f : A → B) (n : ℕ) (xs : List A) → take n (map f xs) ≡ map f (take n xs)
map_take f zero xs = refl
map_take f (suc n) [] = refl
map_take f (suc n) (x ∷ xs) = ap (λ ys. f x ∷ ys) (map_take f n xs)

-- the same of envelopes in another form
pub last_between : {A : Type 0} (f : A → Taken) (n m : ℕ) (xs : List A) → has_last (take n (drop m (map f xs))) ≡ list_any (λ x. (f x).stamp == latest_stamp) (take n (drop m xs))
last_between f n m xs = ap (λ ys. has_last (take n ys)) (map_drop f m xs) ∙ ap has_last (map_take f n (drop m xs)) ∙ any_map f (λ e. e.stamp == latest_stamp) (take n (drop m xs))
  where
    any_map : {A B : Type 0} (g : A → B) (p : B → Bool) (zs : List A) → list_any p (map g zs) ≡ list_any (λ z. p (g z)) zs
    any_map g p [] = refl
    any_map g p (z ∷ zs) = ap (λ b. p (g z) || b) (any_map g p zs)

-- one more of a list that is looked through
pub any_between : {A : Type 0} (p : A → Bool) (m i : ℕ) (xs : List A) (x : A) → m ≤ i → x ≡ slice_index_or xs i x → i < length xs → list_any p (take (i + 1 - m) (drop m xs)) ≡ (list_any p (take (i - m) (drop m xs)) || p x)
any_between p m i xs x low is less =
    let here : drop i xs ≡ x ∷ drop (i + 1) xs = drop_first xs i x is less in
    let past : m + (i - m) ≡ i = omega arith in
    let next : x ∷ drop (i + 1) xs ≡ drop (i - m) (drop m xs) = sym here ∙ ap (λ k. drop k xs) (sym past) ∙ drop_more m (i - m) xs in
    let count : i + 1 - m ≡ i - m + 1 = omega arith in
    ap (λ k. list_any p (take k (drop m xs))) count
    ∙ ap (list_any p) (take_next (i - m) (drop m xs) (drop (i + 1) xs) x next)
    ∙ list_any-append p (take (i - m) (drop m xs)) (x ∷ [])
    ∙ ap (λ b. list_any p (take (i - m) (drop m xs)) || b) (or_false (p x))
  where
    or_false : (b : Bool) → (b || false) ≡ b
    or_false true = refl
    or_false false = refl

-- and of all that come after it
pub any_later : {A : Type 0} (p : A → Bool) (m n k : ℕ) (xs : List A) → list_any p (take n (drop m xs)) ≡ true → n ≤ k → list_any p (take k (drop m xs)) ≡ true
any_later p m n k xs some le =
    let more : n + (k - n) ≡ k = omega arith in
    ap (λ j. list_any p (take j (drop m xs))) (sym more) ∙ ap (list_any p) (take-add n (k - n) (drop m xs)) ∙ list_any-append p (take n (drop m xs)) (take (k - n) (drop n (drop m xs))) ∙ rw some refl

-- ---- what is offered run by run is offered

both_and : (a b c d : Bool) → ((a && not c) && (b && not d)) ≡ ((a && b) && not (c || d))
both_and true true true d = refl
both_and true true false d = refl
both_and true false true d = refl
both_and true false false d = by_last d
  where
    by_last : (d : Bool) → (false && not d) ≡ (false && not d)
    by_last d = refl
both_and false b c d = refl

pub offered_next : (w : ℕ → List Taken) (runs : List SenderRun) → are_offered w runs ≡ (are_next w runs && not (has_last (taken_by_runs w runs)))
offered_next w [] = refl
offered_next w (run ∷ runs) =
    ap (λ b. is_offered_run w run && b) (offered_next (without_run w run) runs)
    ∙ both_and (is_next w run) (are_next (without_run w run) runs) (has_last (taken_by_run w run)) (has_last (taken_by_runs (without_run w run) runs))
    ∙ ap (λ b. (is_next w run && are_next (without_run w run) runs) && not b) (sym (list_any-append (λ e. e.stamp == latest_stamp) (taken_by_run w run) (taken_by_runs (without_run w run) runs)))

-- some run names some envelope
abbrev pub names_some : List SenderRun → Bool
names_some runs = list_any (λ run. nat_lt 0 run.count) runs

first_filled : (n : ℕ) (es : List Taken) → not (nat_lt (length es) n) ≡ true → is_filled (take n es) ≡ nat_lt 0 n
first_filled zero es q = refl
first_filled (suc n) [] q = absurd (none (suc n) q (omega arith))
  where
    none : (m : ℕ) → not (nat_lt 0 m) ≡ true → 0 < m → ⊥
    none m r lt = grind (arith, nat_tests)
first_filled (suc n) (e ∷ es) q = sym (some (suc n) (omega arith))
  where
    some : (m : ℕ) → 0 < m → nat_lt 0 m ≡ true
    some m lt = grind (arith, nat_tests)

pub and_left : (a b : Bool) → (a && b) ≡ true → a ≡ true
and_left true b q = refl
and_left false b q = cc

pub and_right : (a b : Bool) → (a && b) ≡ true → b ≡ true
and_right true b q = q
and_right false b q = cc

pub named_filled : (w : ℕ → List Taken) (runs : List SenderRun) → are_next w runs ≡ true → is_filled (taken_by_runs w runs) ≡ names_some runs
named_filled w [] q = refl
named_filled w (run ∷ runs) q =
    filled_append (taken_by_run w run) (taken_by_runs (without_run w run) runs)
    ∙ ap (λ b. b || is_filled (taken_by_runs (without_run w run) runs)) (first_filled run.count (w run.sender) (and_left (is_next w run) (are_next (without_run w run) runs) q))
    ∙ ap (λ b. nat_lt 0 run.count || b) (named_filled (without_run w run) runs (and_right (is_next w run) (are_next (without_run w run) runs) q))

-- all runs are offered, and one names some envelope or not
pub offered_batch : (w : ℕ → List Taken) (runs : List SenderRun) → are_offered w runs ≡ true → is_batch w runs ≡ names_some runs
offered_batch w runs q =
    let both = sym (offered_next w runs) ∙ q in
    let next : are_next w runs ≡ true = and_left (are_next w runs) (not (has_last (taken_by_runs w runs))) both in
    let early : not (has_last (taken_by_runs w runs)) ≡ true = and_right (are_next w runs) (not (has_last (taken_by_runs w runs))) both in
    go next early (named_filled w runs next)
  where
    and_true : (b : Bool) → (b && true) ≡ b
    and_true true = refl
    and_true false = refl

    go : are_next w runs ≡ true → not (has_last (taken_by_runs w runs)) ≡ true → is_filled (taken_by_runs w runs) ≡ names_some runs → is_batch w runs ≡ names_some runs
    go next early filled = rw (next, early) (and_true (is_filled (taken_by_runs w runs)) ∙ filled)

pub refused_batch : (w : ℕ → List Taken) (runs : List SenderRun) → are_offered w runs ≡ false → is_batch w runs ≡ false
refused_batch w runs q = go (are_next w runs) (is_filled (taken_by_runs w runs)) (not (has_last (taken_by_runs w runs))) (sym (offered_next w runs) ∙ q)
  where
    go : (a b c : Bool) → (a && c) ≡ false → (a && (b && c)) ≡ false
    go true true true r = cc
    go true true false r = refl
    go true false c r = refl
    go false b c r = refl

pub batch_next : (w : ℕ → List Taken) (runs : List SenderRun) → is_batch w runs ≡ true → are_next w runs ≡ true
batch_next w runs q = and_left (are_next w runs) (is_filled (taken_by_runs w runs) && not (has_last (taken_by_runs w runs))) q

pub batch_filled : (w : ℕ → List Taken) (runs : List SenderRun) → is_batch w runs ≡ true → is_filled (taken_by_runs w runs) ≡ true
batch_filled w runs q =
    and_left (is_filled (taken_by_runs w runs)) (not (has_last (taken_by_runs w runs)))
    (and_right (are_next w runs) (is_filled (taken_by_runs w runs) && not (has_last (taken_by_runs w runs))) q)

pub batch_early : (w : ℕ → List Taken) (runs : List SenderRun) → is_batch w runs ≡ true → has_last (taken_by_runs w runs) ≡ false
batch_early w runs q =
    not_true (has_last (taken_by_runs w runs))
    (and_right (is_filled (taken_by_runs w runs)) (not (has_last (taken_by_runs w runs)))
    (and_right (are_next w runs) (is_filled (taken_by_runs w runs) && not (has_last (taken_by_runs w runs))) q))
  where
    not_true : (b : Bool) → not b ≡ true → b ≡ false
    not_true true r = cc
    not_true false r = refl

-- ---- the same of lists that are equal sender by sender

pub same_offered : (v w : ℕ → List Taken) (runs : List SenderRun) → ((a : ℕ) → v a ≡ w a) → are_offered v runs ≡ are_offered w runs
same_offered v w runs same = ap (λ (u : ℕ → List Taken). are_offered u runs) (fun_ext same)

pub same_next : (v w : ℕ → List Taken) (runs : List SenderRun) → ((a : ℕ) → v a ≡ w a) → are_next v runs ≡ are_next w runs
same_next v w runs same = ap (λ (u : ℕ → List Taken). are_next u runs) (fun_ext same)

pub same_taken : (v w : ℕ → List Taken) (runs : List SenderRun) → ((a : ℕ) → v a ≡ w a) → taken_by_runs v runs ≡ taken_by_runs w runs
same_taken v w runs same = ap (λ (u : ℕ → List Taken). taken_by_runs u runs) (fun_ext same)

-- where nothing waits, nothing is taken
pub none_taken : (w : ℕ → List Taken) (runs : List SenderRun) → ((a : ℕ) → w a ≡ []) → taken_by_runs w runs ≡ []
none_taken w [] none = refl
none_taken w (run ∷ runs) none =
    ap (λ es. es ++ taken_by_runs (without_run w run) runs) (ap (take run.count) (none run.sender) ∙ take_none run.count)
    ∙ none_taken (without_run w run) runs (λ a. still a (a == run.sender) refl)
  where
    still : (a : ℕ) (b : Bool) → (a == run.sender) ≡ b → without_run w run a ≡ []
    still a true q = rw q (ap (drop run.count) (none a) ∙ drop_none run.count)
    still a false q = rw q (none a)

-- ---- with counts of what earlier runs took

pub no_counts : (w : Arriving) (taken : List ℕ) → ((a : ℕ) → count_at taken a ≡ 0) → (a : ℕ) → left_past w taken a ≡ from_sender w a
no_counts w taken none a = ap (λ n. drop n (from_sender w a)) (none a)

module _ (w : Arriving) (taken : List ℕ) (run : SenderRun) where
  -- a sender without a queue
  module _ (past : length w.queues ≤ run.sender) where
    nothing_left : left_past w taken run.sender ≡ []
    nothing_left = ap (drop (count_at taken run.sender)) (at_past w.queues run.sender [] past) ∙ drop_none (count_at taken run.sender)

    pub offered_past : is_offered_run (left_past w taken) run ≡ (run.count == 0)
    offered_past = ap (λ es. not (nat_lt (length es) run.count) && not (has_last (take run.count es))) nothing_left ∙ ap (λ es. not (nat_lt 0 run.count) && not (has_last es)) (take_none run.count) ∙ go run.count
      where
        go : (n : ℕ) → (not (nat_lt 0 n) && true) ≡ (n == 0)
        go zero = refl
        go (suc n) = by (suc n) (omega arith)
          where
            by : (m : ℕ) → 0 < m → (not (nat_lt 0 m) && true) ≡ (m == 0)
            by m lt =
                let yes : nat_lt 0 m ≡ true = grind (arith, nat_tests) in
                let other : (m == 0) ≡ false = grind (arith, nat_tests) in
                rw (yes, other) refl

    pub stays_past : (run.count == 0) ≡ true → (a : ℕ) → left_past w taken a ≡ without_run (left_past w taken) run a
    stays_past none a = go (a == run.sender)
      where
        zero_is : run.count ≡ 0
        zero_is = same_of run.count 0 none

        go : (b : Bool) → left_past w taken a ≡ (if b then drop run.count (left_past w taken a) else left_past w taken a)
        go true = ap (λ n. drop n (left_past w taken a)) (sym zero_is)
        go false = refl

  -- too few wait
  pub offered_few : length (from_sender w run.sender) - count_at taken run.sender < run.count → is_offered_run (left_past w taken) run ≡ false
  offered_few less =
      let few : length (left_past w taken run.sender) < run.count = subst (λ n. n < run.count) (sym (length_drop (count_at taken run.sender) (from_sender w run.sender))) less in
      let yes : nat_lt (length (left_past w taken run.sender)) run.count ≡ true = grind (arith, nat_tests) in
      rw yes refl

  -- so many wait
  pub offered_enough : run.count ≤ length (from_sender w run.sender) - count_at taken run.sender → (last : Bool) → has_last (take run.count (left_past w taken run.sender)) ≡ last → is_offered_run (left_past w taken) run ≡ not last
  offered_enough enough last is =
      let many : run.count ≤ length (left_past w taken run.sender) = subst (λ n. run.count ≤ n) (sym (length_drop (count_at taken run.sender) (from_sender w run.sender))) enough in
      let yes : nat_lt (length (left_past w taken run.sender)) run.count ≡ false = grind (arith, nat_tests) in
      rw (yes, is) refl

  module _ (known : run.sender < length taken) where
    abbrev more : List ℕ
    more = slice_set taken run.sender (count_at taken run.sender + run.count)

    counts_more : (a : ℕ) → count_at more a ≡ (if a == run.sender then count_at taken run.sender + run.count else count_at taken a)
    counts_more a = go (a == run.sender) refl
      where
        go : (b : Bool) → (a == run.sender) ≡ b → count_at more a ≡ (if b then count_at taken run.sender + run.count else count_at taken a)
        go true q = subst (λ k. count_at more k ≡ count_at taken run.sender + run.count) (sym (same_of a run.sender q)) (get_or-set_same taken run.sender (count_at taken run.sender + run.count) 0 known)
        go false q = get_or-set_other taken run.sender a (count_at taken run.sender + run.count) 0 (other_of a run.sender q)

    pub left_more : (a : ℕ) → left_past w more a ≡ without_run (left_past w taken) run a
    left_more a = ap (λ n. drop n (from_sender w a)) (counts_more a) ∙ go (a == run.sender) refl
      where
        go : (b : Bool) → (a == run.sender) ≡ b → drop (if b then count_at taken run.sender + run.count else count_at taken a) (from_sender w a) ≡ (if b then drop run.count (left_past w taken a) else left_past w taken a)
        go true q = subst (λ k. drop (count_at taken k + run.count) (from_sender w a) ≡ drop run.count (left_past w taken a)) (same_of a run.sender q) (drop_more (count_at taken a) run.count (from_sender w a))
        go false q = refl

    pub counts_bound : HasCounts w taken → run.count ≤ length (from_sender w run.sender) - count_at taken run.sender → HasCounts w more
    counts_bound bound enough a = subst (λ n. n ≤ length (from_sender w a)) (sym (counts_more a)) (go (a == run.sender) refl)
      where
        go : (b : Bool) → (a == run.sender) ≡ b → (if b then count_at taken run.sender + run.count else count_at taken a) ≤ length (from_sender w a)
        go true q = subst (λ k. count_at taken run.sender + run.count ≤ length (from_sender w k)) (sym (same_of a run.sender q)) (let low = bound run.sender in omega arith)
        go false q = bound a
