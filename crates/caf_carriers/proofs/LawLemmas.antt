-- What is said of the requests of any run.
use Rattle.std.proofs.Common.{◌≡◌, ℕ, ◌+◌, ◌≤◌, ◌<◌, sym, ap, subst, ◌||◌, Bool, true, false, List, [], ◌∷◌, ◌++◌, count_by, refl, arith}
use Rattle.std.specs.List.{AllByRecursion, list_any}
use Rattle.std.proofs.lemmas.Bool.Decides.{nat_tests}
use Rattle.caf_message.specs.declared.envelope.Taken.{Taken}
use Rattle.caf_response.specs.Pending.{WaitingRequests, has_number, is_waiting, waiting_count}
use Rattle.caf_actor.specs.declared.snapshot.Snapshot.{Snapshot}
use Rattle.caf_actor.specs.Rules.{Rules, AnswersRequests, StaysValid, StaysSameActor, SendsToPeers}
use Rattle.caf_actor.specs.Eligibility.{is_eligible}
use Rattle.caf_actor.specs.Quitting.{all_cached}
use Rattle.caf_actor.specs.Record.{Machine, machine_of, IsStill, sum_below}
use Rattle.caf_actor.specs.Run.{State, Step, Take, Speak, step, run, IsPossible, IsRun, opening_state}
use Rattle.caf_actor.specs.Resolutions.{times_resolved, times_answered, given_between}
use Rattle.caf_actor.specs.Carriers.{carries, carriers_at, carriers, AreFresh, end_of, resolutions_of, OneCarrier, CarrierArises, ResolvesOnce, WaitsOrIsResolved, StandsInOnePlace}
use Rattle.caf_actor.proofs.ResolutionLemmas.{carriers_rest}
use Rattle.caf_carriers.proofs.CountLemmas.{one, count-cons, given_most}
use Rattle.caf_carriers.proofs.RunLemmas.{InOrder, arises_after}
use Rattle.caf_carriers.proofs.StepLemmas.{same_carriers, Kept, kept_run, order_opening, counted_opening}

-- ---- waiting

module _ {A : Type 0} (test : A → Bool) where
  some_counted : (xs : List A) → list_any test xs ≡ true → 1 ≤ count_by test xs
  some_counted [] e = cc
  some_counted (x ∷ xs) e = go (test x) refl (some_counted xs) e
    where
      go : (b : Bool) → test x ≡ b → (list_any test xs ≡ true → 1 ≤ count_by test xs) → (b || list_any test xs) ≡ true → 1 ≤ count_by test (x ∷ xs)
      go true q later f = let all = count-cons test x xs in let here : one (test x) ≡ 1 = ap one q in omega arith
      go false q later f = let all = count-cons test x xs in let rest = later f in omega arith

  none_counted : (xs : List A) → list_any test xs ≡ false → count_by test xs ≡ 0
  none_counted [] e = refl
  none_counted (x ∷ xs) e = go (test x) refl (none_counted xs) e
    where
      go : (b : Bool) → test x ≡ b → (list_any test xs ≡ false → count_by test xs ≡ 0) → (b || list_any test xs) ≡ false → count_by test (x ∷ xs) ≡ 0
      go true q later f = cc
      go false q later f = let all = count-cons test x xs in let rest = later f in let here : one (test x) ≡ 0 = ap one q in omega arith

some_waits : (r : WaitingRequests) (n : ℕ) → is_waiting r n ≡ true → 1 ≤ waiting_count r n
some_waits r n e = go (list_any (has_number n) r.multiplexed) refl e
  where
    go : (b : Bool) → list_any (has_number n) r.multiplexed ≡ b → (b || list_any (has_number n) r.awaited) ≡ true → 1 ≤ waiting_count r n
    go true q f = let some = some_counted (has_number n) r.multiplexed q in omega arith
    go false q f = let some = some_counted (has_number n) r.awaited f in omega arith

none_waits : (r : WaitingRequests) (n : ℕ) → is_waiting r n ≡ false → waiting_count r n ≡ 0
none_waits r n e = go (list_any (has_number n) r.multiplexed) refl e
  where
    go : (b : Bool) → list_any (has_number n) r.multiplexed ≡ b → (b || list_any (has_number n) r.awaited) ≡ false → waiting_count r n ≡ 0
    go true q f = cc
    go false q f = let multiplexed = none_counted (has_number n) r.multiplexed q in let awaited = none_counted (has_number n) r.awaited f in omega arith

-- ---- numbers

not_given : (next n : ℕ) → next ≤ n → given_between 1 next n ≡ 0
not_given next n h = grind (arith, nat_tests)

was_given : (next n : ℕ) → 0 < n → n < next → given_between 1 next n ≡ 1
was_given next n h k = grind (arith, nat_tests)

-- ---- runs in two parts

module _ {S : Type 0} (m : Machine S) (ticks : ℕ) where
  run_append : (s : State S) (steps : List Step) (b : Step) → run m ticks s (steps ++ b ∷ []) ≡ step m ticks (run m ticks s steps) b
  run_append s [] b = refl
  run_append s (c ∷ steps) b = run_append (step m ticks s c) steps b

  is_run_front : (s : State S) (steps : List Step) (b : Step) → IsRun m ticks s (steps ++ b ∷ []) → IsRun m ticks s steps
  is_run_front s [] b h = tt
  is_run_front s (c ∷ steps) b h = (h.0, is_run_front (step m ticks s c) steps b h.1)

  is_run_last : (s : State S) (steps : List Step) (b : Step) → IsRun m ticks s (steps ++ b ∷ []) → IsPossible m ticks (run m ticks s steps) b
  is_run_last s [] b h = h.0
  is_run_last s (c ∷ steps) b h = is_run_last (step m ticks s c) steps b h.1

-- ---- the laws

module _ {S : Type 0} (valid : S → Type 0) (rules : Rules S) (stays : StaysValid valid rules) (same : StaysSameActor valid rules) (peers : SendsToPeers valid rules) (answers : AnswersRequests valid rules) where
  pub kept_end : (ticks places : ℕ) (start : ℕ → Snapshot S) (steps : List Step) → AreFresh valid rules places start → IsRun (machine_of rules) ticks (opening_state places start) steps → (a n : ℕ) → (is_place : a < places)
      → Kept valid rules stays same peers answers ticks a n places is_place (end_of valid rules ticks places start steps) (0 + times_answered n (resolutions_of valid rules ticks places start steps a)) (0 + times_resolved n (resolutions_of valid rules ticks places start steps a))
  kept_end ticks places start steps begins runs a n is_place =
      kept_run valid rules stays same peers answers ticks a n places is_place steps (opening_state places start) 0 0 runs
      (record { order = order_opening valid rules places start begins a n is_place; counted = counted_opening valid rules places start begins a n is_place })

  pub one_carrier : OneCarrier valid rules
  one_carrier ticks places start steps begins runs a n is_place positive =
      let end : State (Snapshot S) = end_of valid rules ticks places start steps in
      let times : ℕ = times_answered n (resolutions_of valid rules ticks places start steps a) in
      let h = kept_end ticks places start steps begins runs a n is_place in
      let most = h.counted.most in
      let cover = h.counted.cover in
      let once = h.counted.once in
      let due = h.order.due a is_place in
      let given = given_most 1 (end.snapshot a).pending.next n in
      record {
        unissued = λ low. let none = not_given (end.snapshot a).pending.next n low in omega arith;
        waiting = λ w. let some = some_waits (end.snapshot a).pending n w in omega arith;
        answered = λ some. omega arith;
        most = omega arith;
        due = omega arith;
        only_waiting = λ w. let none = none_waits (end.snapshot a).pending n w in omega arith;
      }

  arises : (ticks places a n : ℕ) (is_place : a < places) (s : State (Snapshot S)) (b : Step) → IsPossible (machine_of rules) ticks s b → InOrder valid rules places n s → 1 ≤ (s.snapshot a).pending.next
      → waiting_count (s.snapshot a).pending n ≤ carriers a n s
      → carriers a n (step (machine_of rules) ticks s b) ≤ carriers a n s + given_between (s.snapshot a).pending.next ((step (machine_of rules) ticks s b).snapshot a).pending.next n
  arises ticks places a n is_place s (Take t) may order low cover = arises_after valid rules stays same peers answers a n places is_place s t may order low cover
  arises ticks places a n is_place s Speak may order low cover = let same = same_carriers a n (machine_of rules) ticks s in omega arith

  pub carrier_arises : CarrierArises valid rules
  carrier_arises ticks places start steps b begins runs a n is_place positive =
      let opens = opening_state places start in
      let front = is_run_front (machine_of rules) ticks opens steps b runs in
      let last = is_run_last (machine_of rules) ticks opens steps b runs in
      let h = kept_end ticks places start steps begins front a n is_place in
      let now : State (Snapshot S) = run (machine_of rules) ticks opens steps in
      subst (λ (e : State (Snapshot S)). carriers a n e ≤ carriers a n now + given_between (now.snapshot a).pending.next (e.snapshot a).pending.next n) (sym (run_append (machine_of rules) ticks opens steps b))
      (arises ticks places a n is_place now b last h.order h.counted.low h.counted.cover)

  pub resolves_once : ResolvesOnce valid rules
  resolves_once ticks places start steps begins runs a n is_place =
      let h = kept_end ticks places start steps begins runs a n is_place in
      let once = h.counted.once in
      let given = given_most 1 ((end_of valid rules ticks places start steps).snapshot a).pending.next n in
      omega arith

  pub waits_or_is_resolved : WaitsOrIsResolved valid rules
  waits_or_is_resolved ticks places start steps begins runs a n is_place positive issued alive =
      let h = kept_end ticks places start steps begins runs a n is_place in
      let exact = h.counted.exact alive in
      let given = was_given ((end_of valid rules ticks places start steps).snapshot a).pending.next n positive issued in
      omega arith

  -- what is eligible nowhere isn't eligible where it carries the request
  carried_too : (test : Taken → Bool) (a n : ℕ) (es : List Taken) → AllByRecursion (λ e. test e ≡ false) es → AllByRecursion (λ e. carries a n e ≡ true → test e ≡ false) es
  carried_too test a n [] h = tt
  carried_too test a n (e ∷ es) h = (λ q. h.0, carried_too test a n es h.1)

  pub stands_in_one_place : StandsInOnePlace valid rules
  stands_in_one_place ticks places start steps begins runs still a n is_place positive issued alive unresolved =
      let end : State (Snapshot S) = end_of valid rules ticks places start steps in
      let h = kept_end ticks places start steps begins runs a n is_place in
      let most = h.counted.most in
      let cover = h.counted.cover in
      let exact = h.counted.exact alive in
      let given = was_given (end.snapshot a).pending.next n positive issued in
      let places_are : end.places ≡ places = h.order.places_are in
      let still_here : IsStill (machine_of rules) end.places end.snapshot end.waiting = subst (λ (k : ℕ). IsStill (machine_of rules) k end.snapshot end.waiting) (sym places_are) still in
      let rest = carriers_rest rules valid end still_here in
      let all = rest.0 a n in
      let sum_same : sum_below end.places (λ p. carriers_at a n (end.snapshot p)) ≡ sum_below places (λ p. carriers_at a n (end.snapshot p)) = ap (λ (k : ℕ). sum_below k (λ p. carriers_at a n (end.snapshot p))) places_are in (
        omega arith,
        λ p less. carried_too (is_eligible rules (end.snapshot p)) a n (all_cached (end.snapshot p).caches) (rest.1 p (subst (λ (k : ℕ). p < k) (sym places_are) less)),
      )
