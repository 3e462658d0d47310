-- A number waits at most once, and only after it was given.
use Rattle.std.proofs.Common.{◌≡◌, ℕ, ◌+◌, ◌≤◌, Bool, true, false, cond, List, [], ◌∷◌, ◌++◌, Option, Some, None, refl, sym, ap, ◌∙◌, subst, arith, eqb-true}
use Rattle.std.specs.Prelude.{◌==◌, ◌||◌, nat_le, not}
use Rattle.std.specs.List.Sorted.{IsStrictlySortedBy}
use Rattle.std.specs.BTreeSet.{insert_key}
use Rattle.std.proofs.lemmas.Bool.Decides.{nat_tests}
use Rattle.std.proofs.lemmas.List.Kept.{IsStrictlySortedBy-filter}
use Rattle.std.specs.List.{count_by, list_any}
use Rattle.std.specs.Option.{option_map, is_some, IfNone}
use Rattle.std.proofs.lemmas.List.Sums.{sum_by-cons, sum_by_push}
use Rattle.caf_types.specs.declared.shape.TypeId.{TypeId}
use Rattle.caf_message.specs.Lists.{pick, keep}
use Rattle.caf_response.specs.declared.pending.Mode.{Mode}
use Rattle.caf_response.specs.declared.pending.Mode.TheVariants.{Awaited, Multiplexed}
use Rattle.caf_response.specs.declared.pending.Waiting.{Waiting}
use Rattle.caf_response.specs.Pending.{WaitingRequests, has_number, is_waiting, is_due, without_due, due_by, waiting_count, due_count, AreNumbered, issued, issued_within, resolved, from_multiplexed, from_awaited, forgotten, no_requests, add_waiting}
use Rattle.caf_response.specs.Filed.{seen_as, waiting_in}
use Rattle.caf_response.specs.Lines.{key_order}
use Rattle.caf_response.proofs.DueLemmas.{count-due, count-insert, count-without, count-ended, without-insert, none_due}
use Rattle.caf_response.proofs.FiledLemmas.{is_some-resolved}

abbrev one : Bool → ℕ
one b = cond b 1 0

same_number : (n : ℕ) → (n == n) ≡ true
same_number n = grind (arith, nat_tests)

both_false : (a b : Bool) → (a || b) ≡ false → (a ≡ false) × (b ≡ false)
both_false true b f = cc
both_false false b f = (refl, f)

-- ---- counts

module _ {A : Type 0} (test : A → Bool) where
  count-cons : (x : A) (xs : List A) → count_by test (x ∷ xs) ≡ one (test x) + count_by test xs
  count-cons x xs = sum_by-cons (λ y. one (test y)) x xs

  count-push : (xs : List A) (x : A) → count_by test (xs ++ x ∷ []) ≡ count_by test xs + one (test x)
  count-push xs x = sum_by_push (λ y. one (test y)) xs x

  none_from_count : (xs : List A) → count_by test xs ≡ 0 → list_any test xs ≡ false
  none_from_count [] e = refl
  none_from_count (x ∷ xs) e = go (test x) (sym (count-cons x xs) ∙ e) (none_from_count xs) where
    go : (b : Bool) → one b + count_by test xs ≡ 0 → (count_by test xs ≡ 0 → list_any test xs ≡ false) → (b || list_any test xs) ≡ false
    go true f rest = absurd (omega arith)
    go false f rest = rest (omega arith)

  count_from_none : (xs : List A) → list_any test xs ≡ false → count_by test xs ≡ 0
  count_from_none [] e = refl
  count_from_none (x ∷ xs) e = count-cons x xs ∙ go (test x) e (count_from_none xs) where
    go : (b : Bool) → (b || list_any test xs) ≡ false → (list_any test xs ≡ false → count_by test xs ≡ 0) → one b + count_by test xs ≡ 0
    go true f rest = cc
    go false f rest = let z : count_by test xs ≡ 0 = rest f in omega arith

  -- what is picked passes, and counts no more; `other` is any test
  module _ (other : A → Bool) where
    abbrev Picked : List A → A × List A → Type 0
    Picked xs p = (test p.0 ≡ true) × (count_by other xs ≡ one (other p.0) + count_by other p.1)

    pub picked : (xs : List A) (p : A × List A) → pick test xs ≡ Some p → Picked xs p
    picked [] p e = cc
    picked (x ∷ xs) p e = go (test x) refl (picked xs) e where
      kept : (found : Option (A × List A)) → pick test xs ≡ found → ((q : A × List A) → pick test xs ≡ Some q → Picked xs q) → keep x found ≡ Some p → Picked (x ∷ xs) p
      kept None was rest f = cc
      kept (Some q) was rest f =
          let now : Picked xs q = rest q was in
          let same : (q.0, x ∷ q.1) ≡ p = some_same f in
          subst (λ (r : A × List A). Picked (x ∷ xs) r) same (now.0, (let a = count-cons' x xs in let b = count-cons' x q.1 in let c = now.1 in omega arith)) where
            some_same : {B : Type 0} {a b : B} → Some a ≡ Some b → a ≡ b
            some_same f = cc

            count-cons' : (y : A) (ys : List A) → count_by other (y ∷ ys) ≡ one (other y) + count_by other ys
            count-cons' y ys = sum_by-cons (λ z. one (other z)) y ys

      go : (b : Bool) → test x ≡ b → ((q : A × List A) → pick test xs ≡ Some q → Picked xs q) → cond b (Some (x, xs)) (keep x (pick test xs)) ≡ Some p → Picked (x ∷ xs) p
      go true q rest f =
          subst (λ (r : A × List A). Picked (x ∷ xs) r) (let s : (x, xs) ≡ p = cc in s) (q, sum_by-cons (λ z. one (other z)) x xs)
      go false q rest f = kept (pick test xs) refl rest f

-- ---- issuing

count-issued : (r : WaitingRequests) (mode : Mode) (tag : ℕ) (expected : List TypeId) (number : ℕ) → waiting_count (issued r mode tag expected) number ≡ waiting_count r number + one (r.next == number)
count-issued r Awaited tag expected number =
    let a = count-cons (has_number number) (record { number = r.next; tag = tag; expected = expected }) r.awaited in omega arith
count-issued r Multiplexed tag expected number =
    let a = count-push (has_number number) r.multiplexed (record { number = r.next; tag = tag; expected = expected }) in omega arith

count-issued_within : (r : WaitingRequests) (mode : Mode) (tag : ℕ) (expected : List TypeId) (due number : ℕ) → waiting_count (issued_within r mode tag expected due) number ≡ waiting_count r number + one (r.next == number)
count-issued_within r Awaited tag expected due number = count-issued r Awaited tag expected number
count-issued_within r Multiplexed tag expected due number = count-issued r Multiplexed tag expected number

due-issued : (r : WaitingRequests) (mode : Mode) (tag : ℕ) (expected : List TypeId) → (issued r mode tag expected).due ≡ r.due
due-issued r Awaited tag expected = refl
due-issued r Multiplexed tag expected = refl

next-issued : (r : WaitingRequests) (mode : Mode) (tag : ℕ) (expected : List TypeId) → (issued r mode tag expected).next ≡ r.next + 1
next-issued r Awaited tag expected = refl
next-issued r Multiplexed tag expected = refl

one_more : (r r' : WaitingRequests) → AreNumbered r → r'.next ≡ r.next + 1 → ((number : ℕ) → waiting_count r' number ≡ waiting_count r number + one (r.next == number))
    → ((number : ℕ) → due_count r' number ≤ due_count r number + one (r.next == number)) → IsStrictlySortedBy key_order r'.due → AreNumbered r'
one_more r r' numbered next count more ordered = record {
  next = omega arith;
  zero = go 0 (r.next == 0) refl (count 0) (let n : 1 ≤ r.next = numbered.next in λ e. absurd (omega arith)) ∙ numbered.zero;
  once = λ n. at_most n (r.next == n) refl (count n);
  given = λ n le. go n (r.next == n) refl (count n) (λ e. absurd (omega arith)) ∙ numbered.given n (omega arith);
  due = λ n. let d = numbered.due n in let c = count n in let m = more n in omega arith;
  ordered = ordered;
} where
  go : (n : ℕ) (b : Bool) → (r.next == n) ≡ b → waiting_count r' n ≡ waiting_count r n + one b → (r.next ≡ n → waiting_count r' n ≡ waiting_count r n) → waiting_count r' n ≡ waiting_count r n
  go n true q c other = other (eqb-true r.next n q)
  go n false q c other = omega arith

  at_most : (n : ℕ) (b : Bool) → (r.next == n) ≡ b → waiting_count r' n ≡ waiting_count r n + one b → waiting_count r' n ≤ 1
  at_most n true q c = let here : r.next ≡ n = eqb-true r.next n q in let none : waiting_count r n ≡ 0 = numbered.given n (omega arith) in omega arith
  at_most n false q c = let was : waiting_count r n ≤ 1 = numbered.once n in omega arith

pub numbered-issued : (r : WaitingRequests) (mode : Mode) (tag : ℕ) (expected : List TypeId) → AreNumbered r → AreNumbered (issued r mode tag expected)
numbered-issued r mode tag expected numbered =
    one_more r (issued r mode tag expected) numbered (next-issued r mode tag expected) (count-issued r mode tag expected) (λ n. same mode n) (subst (IsStrictlySortedBy key_order) (sym (due-issued r mode tag expected)) numbered.ordered)
  where
    same : (m : Mode) (n : ℕ) → due_count (issued r m tag expected) n ≤ due_count r n + one (r.next == n)
    same Awaited n = omega arith
    same Multiplexed n = omega arith

-- with a due count
pub numbered-issued_within : (r : WaitingRequests) (mode : Mode) (tag : ℕ) (expected : List TypeId) (due : ℕ) → AreNumbered r → IsStrictlySortedBy key_order (insert_key key_order r.due (due, r.next))
    → AreNumbered (issued_within r mode tag expected due)
numbered-issued_within r mode tag expected due numbered ordered =
    one_more r (issued_within r mode tag expected due) numbered (next-issued r mode tag expected) (count-issued_within r mode tag expected due) (λ n. count-insert n (due, r.next) r.due) ordered

pub numbered-none : AreNumbered no_requests
unfolding IsStrictlySortedBy
numbered-none = record { next = omega arith; zero = refl; once = λ n. omega arith; given = λ n le. refl; due = λ n. omega arith; ordered = tt }

pub numbered-forgotten : (r : WaitingRequests) → AreNumbered r → AreNumbered (forgotten r)
unfolding IsStrictlySortedBy
numbered-forgotten r numbered = record { next = numbered.next; zero = refl; once = λ n. omega arith; given = λ n le. refl; due = λ n. omega arith; ordered = tt }

-- ---- resolving

-- the number waits once less, no other more or less often, and the number is due no more
record HasLess (r : WaitingRequests) (number : ℕ) (rest : WaitingRequests) : Type 0 where
  next : rest.next ≡ r.next
  each : (n : ℕ) → waiting_count r n ≡ one (number == n) + waiting_count rest n
  due : rest.due ≡ without_due number r.due

-- the one that is picked counts once, for its own number
module _ (number : ℕ) (ws : List Waiting) (p : Waiting × List Waiting) (e : pick (has_number number) ws ≡ Some p) where
  less_by_one : (n : ℕ) → count_by (has_number n) ws ≡ one (number == n) + count_by (has_number n) p.1
  less_by_one n =
      let h = picked (has_number number) (has_number n) ws p e in
      let same : p.0.number ≡ number = eqb-true p.0.number number h.0 in
      h.1 ∙ ap (λ m. one (m == n) + count_by (has_number n) p.1) same

less_awaited : (r : WaitingRequests) (number : ℕ) (p : Waiting × List Waiting) → pick (has_number number) r.awaited ≡ Some p
    → HasLess r number (record r { awaited = p.1; due = without_due number r.due })
less_awaited r number p e = record { next = refl; each = λ n. let c = less_by_one number r.awaited p e n in omega arith; due = refl }

less_multiplexed : (r : WaitingRequests) (number : ℕ) (p : Waiting × List Waiting) → pick (has_number number) r.multiplexed ≡ Some p
    → HasLess r number (record r { multiplexed = p.1; due = without_due number r.due })
less_multiplexed r number p e = record { next = refl; each = λ n. let c = less_by_one number r.multiplexed p e n in omega arith; due = refl }

abbrev rest_or : WaitingRequests → Option (Waiting × WaitingRequests) → WaitingRequests
rest_or r None = r
rest_or r (Some found) = found.1

resolved-less : (r : WaitingRequests) (number : ℕ) (w : Waiting) (rest : WaitingRequests) → resolved r number ≡ Some (w, rest) → HasLess r number rest
resolved-less r number w rest e = in_multiplexed (pick (has_number number) r.multiplexed) refl e where
  in_awaited : (found : Option (Waiting × List Waiting)) → pick (has_number number) r.awaited ≡ found → from_awaited r number found ≡ Some (w, rest) → HasLess r number rest
  in_awaited None was f = cc
  in_awaited (Some p) was f = subst (λ (q : WaitingRequests). HasLess r number q) (ap (rest_or r) f) (less_awaited r number p was)

  in_multiplexed : (found : Option (Waiting × List Waiting)) → pick (has_number number) r.multiplexed ≡ found → from_multiplexed r number found ≡ Some (w, rest) → HasLess r number rest
  in_multiplexed None was f = in_awaited (pick (has_number number) r.awaited) refl f
  in_multiplexed (Some p) was f = subst (λ (q : WaitingRequests). HasLess r number q) (ap (rest_or r) f) (less_multiplexed r number p was)

numbered-less : (r : WaitingRequests) (number : ℕ) (rest : WaitingRequests) → AreNumbered r → HasLess r number rest → AreNumbered rest
numbered-less r number rest numbered less = record {
  next = let n = numbered.next in let s = less.next in omega arith;
  zero = let z = numbered.zero in let l = less.each 0 in omega arith;
  once = λ n. let o = numbered.once n in let l = less.each n in omega arith;
  given = λ n le. let s = less.next in let z : waiting_count r n ≡ 0 = numbered.given n (omega arith) in let l = less.each n in omega arith;
  due = λ n. still_due n (number == n) refl (less.each n) (numbered.due n);
  ordered = subst (IsStrictlySortedBy key_order) (sym less.due) (IsStrictlySortedBy-filter key_order (λ d. not (is_due number d)) r.due numbered.ordered);
} where
  count_is : (n : ℕ) → due_count rest n ≡ count_by (is_due n) (without_due number r.due)
  count_is n = ap (count_by (is_due n)) less.due

  still_due : (n : ℕ) (b : Bool) → (number == n) ≡ b → waiting_count r n ≡ one b + waiting_count rest n → due_count r n ≤ waiting_count r n → due_count rest n ≤ waiting_count rest n
  still_due n true q c d =
      let same : number ≡ n = eqb-true number n q in
      let none : due_count rest n ≡ 0 = count_is n ∙ subst (λ (m : ℕ). count_by (is_due m) (without_due number r.due) ≡ 0) same (count-ended number r.due) in
      omega arith
  still_due n false q c d = let l = count-without number n r.due in let is = count_is n in omega arith

not_counted : (r : WaitingRequests) (number : ℕ) → waiting_count r number ≡ 0 → is_waiting r number ≡ false
not_counted r number e =
    let multiplexed : list_any (has_number number) r.multiplexed ≡ false = none_from_count (has_number number) r.multiplexed (omega arith) in
    let awaited : list_any (has_number number) r.awaited ≡ false = none_from_count (has_number number) r.awaited (omega arith) in
    rw (multiplexed, awaited) refl

-- what `resolve` leaves
module _ (r : WaitingRequests) (number : ℕ) (numbered : AreNumbered r) (rest : WaitingRequests) where
  pub numbered-resolve : (found : Option Waiting) → option_map (λ w. (w, rest)) found ≡ resolved r number → IfNone found (rest ≡ r) → AreNumbered rest
  numbered-resolve None e same = subst AreNumbered (sym same) numbered
  numbered-resolve (Some w) e same = numbered-less r number rest numbered (resolved-less r number w rest (sym e))

  pub gone-resolve : (found : Option Waiting) → option_map (λ w. (w, rest)) found ≡ resolved r number → IfNone found (rest ≡ r) → is_waiting rest number ≡ false
  gone-resolve None e same = ap (λ q. is_waiting q number) same ∙ sym (is_some-resolved r number) ∙ ap is_some (sym e)
  gone-resolve (Some w) e same =
      let less : HasLess r number rest = resolved-less r number w rest (sym e) in
      not_counted rest number (let t = less.each number in let o = numbered.once number in let here : one (number == number) ≡ 1 = ap one (same_number number) in omega arith)

-- what `put` leaves
module _ (next : ℕ) (awaited awaited' : List Waiting) (es es' : List (ℕ × Waiting)) (due : List (ℕ × ℕ)) (mode : Mode) (tag : ℕ) (expected : List TypeId) where
  abbrev new : Waiting
  new = record { number = next; tag = tag; expected = expected }

  put_is : (m : Mode) → awaited' ≡ (add_waiting (seen_as next awaited es []) m new).awaited → waiting_in es' ≡ (add_waiting (seen_as next awaited es []) m new).multiplexed
      → seen_as (next + 1) awaited' es' due ≡ issued (seen_as next awaited es due) m tag expected
  put_is Awaited first last = rw (first, last) refl
  put_is Multiplexed first last = rw (first, last) refl

  module _ (first : awaited' ≡ (add_waiting (seen_as next awaited es []) mode new).awaited) (last : waiting_in es' ≡ (add_waiting (seen_as next awaited es []) mode new).multiplexed) where
    pub numbered-put : AreNumbered (seen_as next awaited es due) → AreNumbered (seen_as (next + 1) awaited' es' due)
    numbered-put numbered = subst AreNumbered (sym (put_is mode first last)) (numbered-issued (seen_as next awaited es due) mode tag expected numbered)

    -- and with a due count
    module _ (count : ℕ) (due' : List (ℕ × ℕ)) (set : due' ≡ insert_key key_order due (count, next)) where
      pub put-within : seen_as (next + 1) awaited' es' due' ≡ issued_within (seen_as next awaited es due) mode tag expected count
      put-within = ap (λ (r : WaitingRequests). record r { due = due' }) (put_is mode first last) ∙ rw set (within mode) where
        within : (m : Mode) → record (issued (seen_as next awaited es due) m tag expected) { due = insert_key key_order due (count, next) } ≡ issued_within (seen_as next awaited es due) m tag expected count
        within Awaited = refl
        within Multiplexed = refl

      pub numbered-put_within : AreNumbered (seen_as next awaited es due) → IsStrictlySortedBy key_order due' → AreNumbered (seen_as (next + 1) awaited' es' due')
      numbered-put_within numbered ordered =
          subst AreNumbered (sym put-within) (numbered-issued_within (seen_as next awaited es due) mode tag expected count numbered (subst (IsStrictlySortedBy key_order) set ordered))

-- a number that wasn't given isn't due
pub none_due_next : (r : WaitingRequests) → AreNumbered r → due_count r r.next ≡ 0
none_due_next r numbered = let d = numbered.due r.next in let z : waiting_count r r.next ≡ 0 = numbered.given r.next (omega arith) in omega arith

-- a due count that was given to it ends again
pub undone : (r : WaitingRequests) (count : ℕ) (due' due'' : List (ℕ × ℕ)) → AreNumbered r → due' ≡ insert_key key_order r.due (count, r.next) → due'' ≡ without_due r.next due' → due'' ≡ r.due
undone r count due' due'' numbered set ends = ends ∙ ap (without_due r.next) set ∙ without-insert r.next count r.due (none_due r.next r.due (none_due_next r numbered))

-- what is due waits
pub due_waits : (r : WaitingRequests) (number now : ℕ) → AreNumbered r → due_by now r.due ≡ Some number → is_waiting r number ≡ true
due_waits r number now numbered e = counted (is_waiting r number) refl where
  some_due : (ds : List (ℕ × ℕ)) → due_by now ds ≡ Some number → 1 ≤ count_by (is_due number) ds
  some_due [] f = cc
  some_due (d ∷ ds) f = go (nat_le d.0 now) f where
    go : (b : Bool) → cond b (Some d.1) None ≡ Some number → 1 ≤ count_by (is_due number) (d ∷ ds)
    go true f = let same : d.1 ≡ number = cc in let c = count-due number d ds in let here : one (is_due number d) ≡ 1 = ap (λ m. one (m == number)) same ∙ ap one (same_number number) in omega arith
    go false f = cc

  counted : (b : Bool) → is_waiting r number ≡ b → b ≡ true
  counted true q = refl
  counted false q =
      let d = numbered.due number in
      let s : 1 ≤ due_count r number = some_due r.due e in
      let parts = both_false (list_any (has_number number) r.multiplexed) (list_any (has_number number) r.awaited) q in
      let m = count_from_none (has_number number) r.multiplexed parts.0 in
      let a = count_from_none (has_number number) r.awaited parts.1 in
      absurd (omega arith)

-- what expires is there exactly where something is due
pub some-expired : (r : WaitingRequests) (number now : ℕ) (found : Option Waiting) → AreNumbered r → Some number ≡ due_by now r.due → is_some found ≡ is_waiting r number → is_some found ≡ is_some (due_by now r.due)
some-expired r number now found numbered due e = e ∙ due_waits r number now numbered (sym due) ∙ ap is_some due
