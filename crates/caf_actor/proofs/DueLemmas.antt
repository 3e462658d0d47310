-- How many requests are due.
use Rattle.std.proofs.Common.{◌≡◌, ℕ, suc, ◌+◌, ◌≤◌, ◌<◌, Bool, true, false, List, [], ◌∷◌, count_by, filter, not, cond, Option, Some, None, refl, sym, arith, ◌∙◌, ap, nat_le, nat_lt, ◌==◌}
use Rattle.std.specs.BTreeSet.{insert_key}
use Rattle.std.specs.Ordering.{match_ordering}
use Rattle.std.specs.declared.cmp.Ordering.{Ordering}
use Rattle.std.specs.declared.cmp.Ordering.TheVariants as ordering
use Rattle.std.proofs.lemmas.Bool.Decides.{nat_tests}
use Rattle.std.proofs.lemmas.List.Sums.{sum_by-cons}
use Rattle.caf_message.specs.Lists.{pick}
use Rattle.caf_types.specs.declared.shape.TypeId.{TypeId}
use Rattle.caf_response.specs.Lines.{key_order}
use Rattle.caf_response.specs.declared.pending.Mode.{Mode}
use Rattle.caf_response.specs.declared.pending.Mode.TheVariants.{Awaited, Multiplexed}
use Rattle.caf_response.specs.declared.pending.Waiting.{Waiting}
use Rattle.caf_response.specs.Pending as pending
use Rattle.caf_response.specs.Pending.{WaitingRequests, issued, issued_within, has_number, without_due, from_awaited, resolved, due_by, resolved_where, expired}

abbrev pub is_due : ℕ → ℕ × ℕ → Bool
is_due now d = nat_le d.0 now

-- ---- counting

abbrev one : Bool → ℕ
one b = cond b 1 0

module _ {A : Type 0} (test : A → Bool) where
  pub count-cons : (x : A) (xs : List A) → count_by test (x ∷ xs) ≡ one (test x) + count_by test xs
  count-cons x xs = sum_by-cons (λ y. one (test y)) x xs

  pub count-none : (x : A) (xs : List A) → test x ≡ false → count_by test (x ∷ xs) ≡ count_by test xs
  count-none x xs h = count-cons x xs ∙ rw h (omega arith)

  -- of fewer there are no more
  pub count-filter : (keep : A → Bool) (xs : List A) → count_by test (filter keep xs) ≤ count_by test xs
  count-filter keep [] = omega arith
  count-filter keep (x ∷ xs) = go (keep x) refl (count-filter keep xs)
    where
      go : (b : Bool) → keep x ≡ b → count_by test (filter keep xs) ≤ count_by test xs → count_by test (filter keep (x ∷ xs)) ≤ count_by test (x ∷ xs)
      go true e h = rw e (let a = count-cons x (filter keep xs) in let b = count-cons x xs in omega arith)
      go false e h = rw e (let b = count-cons x xs in omega arith)

  pub count-insert : (cmp : A → A → Ordering) (x : A) (xs : List A) → test x ≡ false → count_by test (insert_key cmp xs x) ≡ count_by test xs
  count-insert cmp x [] h = count-none x [] h
  count-insert cmp x (y ∷ ys) h = go (cmp x y) refl (count-insert cmp x ys h)
    where
      go : (o : Ordering) → cmp x y ≡ o → count_by test (insert_key cmp ys x) ≡ count_by test ys → count_by test (insert_key cmp (y ∷ ys) x) ≡ count_by test (y ∷ ys)
      go ordering.Less e k = rw e (count-none x (y ∷ ys) h)
      go ordering.Equal e k = rw e refl
      go ordering.Greater e k = rw e (count-cons y (insert_key cmp ys x) ∙ rw k (let same = count-cons y ys in omega arith))

-- ---- requests that expire

-- the due counts that are left where a request is resolved
left_due : (r : WaitingRequests) (number : ℕ) (found : Waiting × WaitingRequests) → resolved r number ≡ Some found → found.1.due ≡ without_due number r.due
left_due r number found q = go (pick (has_number number) r.multiplexed) refl
  where
    stack : (p : Option (Waiting × List Waiting)) → from_awaited r number p ≡ Some found → found.1.due ≡ without_due number r.due
    stack None e = cc
    stack (Some p) e = let is : (p.0, record r { awaited = p.1; due = without_due number r.due }) ≡ found = cc in rw (← is) refl

    go : (p : Option (Waiting × List Waiting)) → pick (has_number number) r.multiplexed ≡ p → found.1.due ≡ without_due number r.due
    go None e = stack (pick (has_number number) r.awaited) (rw e at q)
    go (Some p) e =
        let same : ◌≡◌ {A = Option (Waiting × WaitingRequests)} (Some (p.0, record r { multiplexed = p.1; due = without_due number r.due })) (Some found) = rw e at q in
        let is : (p.0, record r { multiplexed = p.1; due = without_due number r.due }) ≡ found = cc in rw (← is) refl

pub fewer_due : (r : WaitingRequests) (now : ℕ) (found : Waiting × WaitingRequests) → expired r now ≡ Some found → count_by (is_due now) found.1.due < count_by (is_due now) r.due
fewer_due r now found q = go r.due refl
  where
    go : (ds : List (ℕ × ℕ)) → r.due ≡ ds → count_by (is_due now) found.1.due < count_by (is_due now) r.due
    go [] e = let no : ◌≡◌ {A = Option (Waiting × WaitingRequests)} None (Some found) = rw e at q in cc
    go (d ∷ ds) e = on (nat_le d.0 now) refl
      where
        on : (b : Bool) → nat_le d.0 now ≡ b → count_by (is_due now) found.1.due < count_by (is_due now) r.due
        on false f = let no : ◌≡◌ {A = Option (Waiting × WaitingRequests)} None (Some found) = rw (e, f) at q in cc
        on true f =
            let here : due_by now (d ∷ ds) ≡ Some d.1 = rw f refl in
            let is : resolved r d.1 ≡ Some found = sym (ap (resolved_where r) (ap (due_by now) e ∙ here)) ∙ q in
            let itself : (d.1 == d.1) ≡ true = grind (arith, nat_tests) in
            let left : found.1.due ≡ without_due d.1 ds = left_due r d.1 found is ∙ ap (without_due d.1) e ∙ rw itself refl in
            let fewer = count-filter (is_due now) (λ (c : ℕ × ℕ). not (pending.is_due d.1 c)) ds in
            let first = count-cons (is_due now) d ds in
            let counted : one (is_due now d) ≡ 1 = rw f refl in
            rw (left, e) (omega arith)

pub same_due_issued : (r : WaitingRequests) (mode : Mode) (tag : ℕ) (expected : List TypeId) (now : ℕ) → count_by (is_due now) (issued r mode tag expected).due ≡ count_by (is_due now) r.due
same_due_issued r Awaited tag expected now = refl
same_due_issued r Multiplexed tag expected now = refl

pub same_due_within : (r : WaitingRequests) (mode : Mode) (tag : ℕ) (expected : List TypeId) (due now : ℕ) → now < due
    → count_by (is_due now) (issued_within r mode tag expected due).due ≡ count_by (is_due now) r.due
same_due_within r mode tag expected due now later = let no : nat_le due now ≡ false = grind (arith, nat_tests) in count-insert (is_due now) key_order (due, r.next) r.due no
