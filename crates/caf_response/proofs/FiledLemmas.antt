-- Multiplexed requests, kept under their numbers in rising order.
use Rattle.std.proofs.Common.{◌≡◌, ℕ, ◌+◌, ◌<◌, Bool, true, false, cond, List, [], ◌∷◌, ◌++◌, Option, Some, None, refl, sym, ap, ◌∙◌, subst, arith}
use Rattle.std.specs.Prelude.{◌==◌}
use Rattle.std.specs.List.{list_any}
use Rattle.std.specs.Ordering.{nat_cmp}
use Rattle.std.specs.declared.cmp.Ordering.TheVariants.{Greater}
use Rattle.std.specs.Map.{lookup, remove_entry}
use Rattle.std.specs.BTreeMap.{insert_entry, is_at}
use Rattle.std.proofs.lemmas.Bool.Decides.{nat_tests}
use Rattle.caf_message.specs.Lists.{pick}
use Rattle.caf_response.specs.declared.pending.Waiting.{Waiting}
use Rattle.caf_response.specs.Filed.{waiting_in, AreFiled, seen_as}
use Rattle.std.specs.Prelude.{is_some}
use Rattle.std.specs.Option.{option_map}
use Rattle.caf_response.specs.Pending.{WaitingRequests, has_number, is_waiting, resolved, without_due, from_multiplexed, from_awaited}
use Rattle.caf_response.proofs.PickLemmas.{is_some-pick}

above : (next k : ℕ) → k < next → nat_cmp next k ≡ Greater
above next k l = grind (arith, nat_tests)

same_test : (number k : ℕ) → is_at (nat_cmp number) k ≡ (k == number)
same_test number k = grind (arith, nat_tests)

-- a number above all others goes to the end
pub insert-last : (next : ℕ) (w : Waiting) (es : List (ℕ × Waiting)) → AreFiled next es → waiting_in (insert_entry nat_cmp es next w) ≡ waiting_in es ++ w ∷ []
insert-last next w [] filed = refl
insert-last next w (e ∷ es) filed = rw (above next e.0 filed.0.1) (ap (λ ws. e.1 ∷ ws) (insert-last next w es filed.1))

less_next : (next k : ℕ) → k < next → k < next + 1
less_next next k l = omega arith

pub filed-next : (next : ℕ) (es : List (ℕ × Waiting)) → AreFiled next es → AreFiled (next + 1) es
filed-next next [] filed = tt
filed-next next (e ∷ es) filed = ((filed.0.0, less_next next e.0 filed.0.1), filed-next next es filed.1)

pub filed-insert : (next : ℕ) (w : Waiting) (es : List (ℕ × Waiting)) → AreFiled next es → w.number ≡ next → AreFiled (next + 1) (insert_entry nat_cmp es next w)
filed-insert next w [] filed same = ((sym same, omega arith), tt)
filed-insert next w (e ∷ es) filed same =
    rw (above next e.0 filed.0.1) ((filed.0.0, less_next next e.0 filed.0.1), filed-insert next w es filed.1 same)

-- a look-up by number finds the first one with that number
pub pick-number : (next number : ℕ) (es : List (ℕ × Waiting)) (w : Waiting) → AreFiled next es → lookup (is_at (nat_cmp number)) es ≡ Some w → pick (has_number number) (waiting_in es) ≡ Some (w, waiting_in (remove_entry (is_at (nat_cmp number)) es))
pick-number next number [] w filed found = cc
pick-number next number (e ∷ es) w filed found = go (is_at (nat_cmp number) e.0) (sym (ap (λ k. k == number) (sym filed.0.0) ∙ sym (same_test number e.0))) (λ f. pick-number next number es w filed.1 f) found where
  go : (b : Bool) → b ≡ has_number number e.1 → (lookup (is_at (nat_cmp number)) es ≡ Some w → pick (has_number number) (waiting_in es) ≡ Some (w, waiting_in (remove_entry (is_at (nat_cmp number)) es)))
      → cond b (Some e.1) (lookup (is_at (nat_cmp number)) es) ≡ Some w
      → pick (has_number number) (waiting_in (e ∷ es)) ≡ Some (w, waiting_in (cond b es (e ∷ remove_entry (is_at (nat_cmp number)) es)))
  go true q rest f = let same : e.1 ≡ w = cc in rw (sym q) (ap (λ v. Some (v, waiting_in es)) same)
  go false q rest f = rw (sym q, rest f) refl

pub pick-no_number : (next number : ℕ) (es : List (ℕ × Waiting)) → AreFiled next es → lookup (is_at (nat_cmp number)) es ≡ None → pick (has_number number) (waiting_in es) ≡ None
pick-no_number next number [] filed none = refl
pick-no_number next number (e ∷ es) filed none = go (is_at (nat_cmp number) e.0) (sym (ap (λ k. k == number) (sym filed.0.0) ∙ sym (same_test number e.0))) (λ f. pick-no_number next number es filed.1 f) none where
  go : (b : Bool) → b ≡ has_number number e.1 → (lookup (is_at (nat_cmp number)) es ≡ None → pick (has_number number) (waiting_in es) ≡ None)
      → cond b (Some e.1) (lookup (is_at (nat_cmp number)) es) ≡ None → pick (has_number number) (waiting_in (e ∷ es)) ≡ None
  go true q rest f = cc
  go false q rest f = rw (sym q, rest f) refl

pub filed-remove : (next : ℕ) (test : ℕ → Bool) (es : List (ℕ × Waiting)) → AreFiled next es → AreFiled next (remove_entry test es)
filed-remove next test [] filed = tt
filed-remove next test (e ∷ es) filed = go (test e.0) (filed-remove next test es filed.1) where
  go : (b : Bool) → AreFiled next (remove_entry test es) → AreFiled next (cond b es (e ∷ remove_entry test es))
  go true rest = filed.1
  go false rest = (filed.0, rest)

-- ---- issuing

module _ (w : Waiting) (es es' : List (ℕ × Waiting)) (filed : AreFiled w.number es) (set : es' ≡ insert_entry nat_cmp es w.number w) where
  pub added-last : waiting_in es' ≡ waiting_in es ++ w ∷ []
  added-last = rw set (insert-last w.number w es filed)

  pub added-filed : AreFiled (w.number + 1) es'
  added-filed = rw set (filed-insert w.number w es filed refl)

-- ---- resolving

is_some-from_awaited : (r : WaitingRequests) (number : ℕ) (found : Option (Waiting × List Waiting)) → is_some (from_awaited r number found) ≡ is_some found
is_some-from_awaited r number None = refl
is_some-from_awaited r number (Some p) = refl

-- a request resolves where it waits
pub is_some-resolved : (r : WaitingRequests) (number : ℕ) → is_some (resolved r number) ≡ is_waiting r number
is_some-resolved r number = go (pick (has_number number) r.multiplexed) (sym (is_some-pick (has_number number) r.multiplexed)) where
  go : (found : Option (Waiting × List Waiting)) → list_any (has_number number) r.multiplexed ≡ is_some found → is_some (from_multiplexed r number found) ≡ is_waiting r number
  go None e = rw e (is_some-from_awaited r number (pick (has_number number) r.awaited) ∙ is_some-pick (has_number number) r.awaited)
  go (Some p) e = rw e refl

pub is_some-resolve : (r : WaitingRequests) (number : ℕ) (found : Option Waiting) (rest : WaitingRequests) → option_map (λ w. (w, rest)) found ≡ resolved r number → is_some found ≡ is_waiting r number
is_some-resolve r number None rest e = ap is_some e ∙ is_some-resolved r number
is_some-resolve r number (Some w) rest e = ap is_some e ∙ is_some-resolved r number

module _ (next number : ℕ) (stack : List Waiting) (es es' : List (ℕ × Waiting)) (due : List (ℕ × ℕ)) (r : WaitingRequests) (filed : AreFiled next es)
    (view : seen_as next stack es due ≡ r) where
  -- nothing is found
  pub no_resolved : lookup (is_at (nat_cmp number)) es ≡ None → None ≡ pick (has_number number) stack → None ≡ resolved r number
  no_resolved none e =
      subst (λ (q : WaitingRequests). None ≡ resolved q number) view
      (rw (pick-no_number next number es filed none) (ap (from_awaited (seen_as next stack es due) number) e))

  module _ (due' : List (ℕ × ℕ)) (ends : due' ≡ without_due number due) where
    pub resolved-multiplexed : (w : Waiting) → lookup (is_at (nat_cmp number)) es ≡ Some w → es' ≡ remove_entry (is_at (nat_cmp number)) es
        → Some (w, seen_as next stack es' due') ≡ resolved r number
    resolved-multiplexed w found set =
        subst (λ (q : WaitingRequests). Some (w, seen_as next stack es' due') ≡ resolved q number) view
        (rw (pick-number next number es w filed found, set, ends) refl)

    pub resolved-awaited : (stack' : List Waiting) (w : Waiting) → lookup (is_at (nat_cmp number)) es ≡ None → es' ≡ es → Some (w, stack') ≡ pick (has_number number) stack
        → Some (w, seen_as next stack' es' due') ≡ resolved r number
    resolved-awaited stack' w none same e =
        subst (λ (q : WaitingRequests). Some (w, seen_as next stack' es' due') ≡ resolved q number) view
        (rw (pick-no_number next number es filed none, same, ends, sym e) refl)
