-- Once a closer took Stop, each other place quits before all is at rest.
use Rattle.std.proofs.Common.{◌≡◌, ◌≢◌, ℕ, zero, suc, ◌+◌, ◌≤◌, ◌<◌, ◌∙◌, sym, ap, subst, ◌==◌, ◌&&◌, ◌||◌, Bool, true, false, List, [], ◌∷◌, ◌++◌, length, drop, count_by, None, refl, arith, ◌⊎◌, inl, inr}
use Rattle.std.specs.List.{AllByRecursion, list_any}
use Rattle.std.proofs.lemmas.Bool.Decides.{nat_tests}
use Rattle.caf_message.specs.declared.envelope.Taken.{Taken}
use Rattle.caf_message.specs.Envelope.{outside}
use Rattle.caf_message.specs.Outside.{is_stop, holds_stop}
use Rattle.caf_actor.specs.declared.snapshot.Snapshot.{Snapshot}
use Rattle.caf_actor.specs.Rules.{Rules, AnswersRequests, StaysValid, StaysSameActor, SendsToPeers}
use Rattle.caf_actor.specs.Eligibility.{is_eligible}
use Rattle.caf_actor.specs.Quitting.{all_cached}
use Rattle.caf_actor.specs.Drain.{batch_of}
use Rattle.caf_actor.specs.Record.{machine_of, IsPrefix, from_place, to_place, when, IsStill, IsCloser}
use Rattle.caf_actor.specs.Run.{State, Turn, Step, Take, Speak, without, MayTake, take_batch, next_notice, step, run, IsPossible, IsRun}
use Rattle.caf_actor.specs.Resolutions.{times_resolved, times_answered}
use Rattle.caf_actor.specs.Carriers.{step_resolves}
use Rattle.caf_actor.proofs.ResolutionLemmas.{carriers_rest}
use Rattle.caf_record.proofs.BatchLemmas.{drop_prefix}
use Rattle.caf_record.proofs.ListLemmas.{and_left, and_right}
use Rattle.caf_carriers.proofs.CountLemmas.{one, count-cons, count-append, same_number}
use Rattle.caf_carriers.proofs.PlaceLemmas.{IsFor}
use Rattle.caf_carriers.proofs.RunLemmas.{InOrder, of_batch}
use Rattle.caf_carriers.proofs.StepLemmas.{Kept, kept_step}
use Rattle.caf_carriers.proofs.CloserLemmas.{Closing, closing_step}
use Rattle.caf_carriers.proofs.KillLemmas.{is_kill, stops, listed, none_listed, kill_is_system, stop_is_system, dying_batch}
use Rattle.caf_carriers.proofs.StopLemmas.{kills_to, stopping_batch}

-- ---- batches

count_from : (test : Taken → Bool) (x : ℕ) (es : List Taken) → count_by test (from_place x es) ≤ count_by test es
count_from test x [] = omega arith
count_from test x (e ∷ es) = go (e.sender == x) refl (count_from test x es)
  where
    go : (b : Bool) → (e.sender == x) ≡ b → count_by test (from_place x es) ≤ count_by test es → count_by test (from_place x (e ∷ es)) ≤ count_by test (e ∷ es)
    go true q h = rw q (let a = count-cons test e (from_place x es) in let b = count-cons test e es in omega arith)
    go false q h = rw q (let b = count-cons test e es in omega arith)

-- a batch that holds Stop of the outside has it
stop_counted : (es : List Taken) → holds_stop es ≡ true → 1 ≤ count_by stops es
stop_counted [] h = cc
stop_counted (e ∷ es) h = go (is_stop e) refl h (stop_counted es)
  where
    go : (b : Bool) → is_stop e ≡ b → (b || list_any is_stop es) ≡ true → (holds_stop es ≡ true → 1 ≤ count_by stops es) → 1 ≤ count_by stops (e ∷ es)
    go true q k later = let here : one (stops e) ≡ 1 = ap one (and_right (e.sender == outside) (stops e) q) in let all = count-cons stops e es in omega arith
    go false q k later = let rest = later k in let all = count-cons stops e es in omega arith

-- place 0 takes Stop
abbrev pub takes_stop : Step → Bool
takes_stop (Take t) = (0 == t.place) && holds_stop t.batch.taken
takes_stop Speak = false

module _ {S : Type 0} (q : ℕ) where
  -- the place has quit, or will
  pub data IsDoomed (s : State (Snapshot S)) : Type 0 where
    StopLeft : 1 ≤ listed stops (s.snapshot 0).caches → IsDoomed s
    KillSent : 1 ≤ count_by is_kill (s.waiting 0 q) → IsDoomed s
    KillLeft : 1 ≤ listed is_kill (s.snapshot q).caches → IsDoomed s
    HasQuit : (s.snapshot q).quit ≢ None → IsDoomed s

module _ {S : Type 0} (valid : S → Type 0) (rules : Rules S) (stays : StaysValid valid rules) (same : StaysSameActor valid rules) (peers : SendsToPeers valid rules) (answers : AnswersRequests valid rules)
    (places : ℕ) (start : ℕ → S) (closer : IsCloser rules places start) (ticks n : ℕ) (is_place : 0 < places) (q : ℕ) (above : 0 < q) (below : q < places) where
  q_not_zero : (q == 0) ≡ false
  q_not_zero = grind (arith, nat_tests)

  module _ (s : State (Snapshot S)) (t : Turn) (may : MayTake (machine_of rules) s t) (order : InOrder valid rules places n s) (closing : Closing valid rules stays same peers places start closer s) where
    abbrev later : State (Snapshot S)
    later = take_batch (machine_of rules) s t

    here : t.place < places
    here = subst (λ (k : ℕ). t.place < k) order.places_are may.place

    other_same : (p : ℕ) → (p == t.place) ≡ false → later.snapshot p ≡ s.snapshot p
    other_same p e = rw e refl

    -- ---- the closer's turn

    by_closer : (0 == t.place) ≡ true → 1 ≤ listed stops (s.snapshot 0).caches + count_by stops t.batch.taken → IsDoomed q later
    by_closer e some =
        let is : 0 ≡ t.place = same_number 0 t.place e in
        let batch : AllByRecursion (IsFor 0) t.batch.taken =
        subst (λ (x : ℕ). AllByRecursion (IsFor x) t.batch.taken) (sym is) (of_batch valid rules stays same peers answers 0 n places is_place s t may order (IsFor t.place) (λ x. closing.waiting x t.place)) in
        go (stopping_batch valid rules stays same peers places start closer q above below (s.snapshot 0) t.batch.taken batch (closing.each 0 is_place) some)
      where
        played : later.snapshot 0 ≡ (batch_of rules (s.snapshot 0) t.batch.taken).snapshot
        played = rw e refl

        go : (1 ≤ listed stops (batch_of rules (s.snapshot 0) t.batch.taken).snapshot.caches) ⊎ (1 ≤ kills_to q (batch_of rules (s.snapshot 0) t.batch.taken).posts) → IsDoomed q later
        go (inl left) = StopLeft (subst (λ (u : Snapshot S). 1 ≤ listed stops u.caches) (sym played) left)
        go (inr posted) =
            let sum = count-append is_kill (without (q == t.place) (from_place 0 t.batch.taken) (s.waiting 0 q)) (when (0 == t.place) (to_place q (batch_of rules (s.snapshot 0) t.batch.taken).posts)) in
            let news : when (0 == t.place) (to_place q (batch_of rules (s.snapshot 0) t.batch.taken).posts) ≡ to_place q (batch_of rules (s.snapshot 0) t.batch.taken).posts = rw e refl in
            let count : count_by is_kill (when (0 == t.place) (to_place q (batch_of rules (s.snapshot 0) t.batch.taken).posts)) ≡ kills_to q (batch_of rules (s.snapshot 0) t.batch.taken).posts = ap (count_by is_kill) news in
            KillSent (omega arith)

    -- ---- the turn of the place

    by_place : (q == t.place) ≡ true → ((s.snapshot q).quit ≢ None) ⊎ (1 ≤ listed is_kill (s.snapshot q).caches + count_by is_kill t.batch.taken) → IsDoomed q later
    by_place e some =
        let away : ((s.snapshot q).place == 0) ≡ false = ap (λ (x : ℕ). x == 0) (order.at q below) ∙ q_not_zero in
        go (dying_batch rules (s.snapshot q) t.batch.taken away some)
      where
        played : later.snapshot q ≡ (batch_of rules (s.snapshot q) t.batch.taken).snapshot
        played = rw e refl

        go : ((batch_of rules (s.snapshot q) t.batch.taken).snapshot.quit ≢ None) ⊎ (1 ≤ listed is_kill (batch_of rules (s.snapshot q) t.batch.taken).snapshot.caches) → IsDoomed q later
        go (inl gone) = HasQuit (subst (λ (u : Snapshot S). u.quit ≢ None) (sym played) gone)
        go (inr left) = KillLeft (subst (λ (u : Snapshot S). 1 ≤ listed is_kill u.caches) (sym played) left)

    -- what waits from place 0 is taken, or waits still
    by_taking : (q == t.place) ≡ true → 1 ≤ count_by is_kill (s.waiting 0 q) → IsDoomed q later
    by_taking e some =
        let is : q ≡ t.place = same_number q t.place e in
        let next : IsPrefix (from_place 0 t.batch.taken) (s.waiting 0 q) = subst (λ (x : ℕ). IsPrefix (from_place 0 t.batch.taken) (s.waiting 0 x)) (sym is) (may.next 0) in
        let all = ap (count_by is_kill) next.1 in
        let sum = count-append is_kill (from_place 0 t.batch.taken) next.0 in
        let left : drop (length (from_place 0 t.batch.taken)) (s.waiting 0 q) ≡ next.0 = drop_prefix (from_place 0 t.batch.taken) (s.waiting 0 q) next in
        let less = count_from is_kill 0 t.batch.taken in
        let both = count-append is_kill (without (q == t.place) (from_place 0 t.batch.taken) (s.waiting 0 q)) (when (0 == t.place) (to_place q (batch_of rules (s.snapshot 0) t.batch.taken).posts)) in
        let kept_now : without (q == t.place) (from_place 0 t.batch.taken) (s.waiting 0 q) ≡ next.0 = ap (λ (b : Bool). without b (from_place 0 t.batch.taken) (s.waiting 0 q)) e ∙ left in
        let count = ap (count_by is_kill) kept_now in
        go (count_by is_kill (from_place 0 t.batch.taken)) refl next.0 all sum less both count
      where
        go : (k : ℕ) → count_by is_kill (from_place 0 t.batch.taken) ≡ k → (rest : List Taken)
            → count_by is_kill (from_place 0 t.batch.taken ++ rest) ≡ count_by is_kill (s.waiting 0 q)
            → count_by is_kill (from_place 0 t.batch.taken ++ rest) ≡ count_by is_kill (from_place 0 t.batch.taken) + count_by is_kill rest
            → count_by is_kill (from_place 0 t.batch.taken) ≤ count_by is_kill t.batch.taken
            → count_by is_kill (later.waiting 0 q)
            ≡ count_by is_kill (without (q == t.place) (from_place 0 t.batch.taken) (s.waiting 0 q)) + count_by is_kill (when (0 == t.place) (to_place q (batch_of rules (s.snapshot 0) t.batch.taken).posts))
            → count_by is_kill (without (q == t.place) (from_place 0 t.batch.taken) (s.waiting 0 q)) ≡ count_by is_kill rest
            → IsDoomed q later
        go zero k rest all sum less both count = KillSent (omega arith)
        go (suc m) k rest all sum less both count = by_place e (inr (omega arith))

    -- ---- any turn

    waits_still : (q == t.place) ≡ false → 1 ≤ count_by is_kill (s.waiting 0 q) → IsDoomed q later
    waits_still e some =
        let both = count-append is_kill (without (q == t.place) (from_place 0 t.batch.taken) (s.waiting 0 q)) (when (0 == t.place) (to_place q (batch_of rules (s.snapshot 0) t.batch.taken).posts)) in
        let left : without (q == t.place) (from_place 0 t.batch.taken) (s.waiting 0 q) ≡ s.waiting 0 q = ap (λ (b : Bool). without b (from_place 0 t.batch.taken) (s.waiting 0 q)) e in
        let count = ap (count_by is_kill) left in
        KillSent (omega arith)

    doomed_take : IsDoomed q s → IsDoomed q later
    doomed_take (StopLeft some) = go (0 == t.place) refl
      where
        go : (b : Bool) → (0 == t.place) ≡ b → IsDoomed q later
        go true e = by_closer e (omega arith)
        go false e = StopLeft (subst (λ (u : Snapshot S). 1 ≤ listed stops u.caches) (sym (other_same 0 e)) some)
    doomed_take (KillSent some) = go (q == t.place) refl
      where
        go : (b : Bool) → (q == t.place) ≡ b → IsDoomed q later
        go true e = by_taking e some
        go false e = waits_still e some
    doomed_take (KillLeft some) = go (q == t.place) refl
      where
        go : (b : Bool) → (q == t.place) ≡ b → IsDoomed q later
        go true e = by_place e (inr (omega arith))
        go false e = KillLeft (subst (λ (u : Snapshot S). 1 ≤ listed is_kill u.caches) (sym (other_same q e)) some)
    doomed_take (HasQuit gone) = go (q == t.place) refl
      where
        go : (b : Bool) → (q == t.place) ≡ b → IsDoomed q later
        go true e = by_place e (inl gone)
        go false e = HasQuit (subst (λ (u : Snapshot S). u.quit ≢ None) (sym (other_same q e)) gone)

    doomed_by_stop : takes_stop (Take t) ≡ true → IsDoomed q later
    doomed_by_stop e =
        let some = stop_counted t.batch.taken (and_right (0 == t.place) (holds_stop t.batch.taken) e) in
        by_closer (and_left (0 == t.place) (holds_stop t.batch.taken) e) (omega arith)

  -- ---- any step

  doomed_step : (s : State (Snapshot S)) (b : Step) → IsPossible (machine_of rules) ticks s b → InOrder valid rules places n s → Closing valid rules stays same peers places start closer s → IsDoomed q s → IsDoomed q (step (machine_of rules) ticks s b)
  doomed_step s (Take t) may order closing h = doomed_take s t may order closing h
  doomed_step s Speak may order closing (StopLeft some) = StopLeft some
  doomed_step s Speak may order closing (KillSent some) =
      let both = count-append is_kill (s.waiting 0 q) (when ((outside == 0) && (0 == q)) (next_notice (machine_of rules) ticks s ∷ [])) in
      KillSent (omega arith)
  doomed_step s Speak may order closing (KillLeft some) = KillLeft some
  doomed_step s Speak may order closing (HasQuit gone) = HasQuit gone

  stop_step : (s : State (Snapshot S)) (b : Step) → IsPossible (machine_of rules) ticks s b → InOrder valid rules places n s → Closing valid rules stays same peers places start closer s → takes_stop b ≡ true → IsDoomed q (step (machine_of rules) ticks s b)
  stop_step s (Take t) may order closing e = doomed_by_stop s t may order closing e
  stop_step s Speak may order closing e = cc

  -- ---- runs

  pub doomed_run : (steps : List Step) (s : State (Snapshot S)) (c d : ℕ) → IsRun (machine_of rules) ticks s steps → Kept valid rules stays same peers answers ticks 0 n places is_place s c d
      → Closing valid rules stays same peers places start closer s → IsDoomed q s ⊎ (list_any takes_stop steps ≡ true) → IsDoomed q (run (machine_of rules) ticks s steps)
  doomed_run [] s c d runs kept closing (inl h) = h
  doomed_run [] s c d runs kept closing (inr e) = cc
  doomed_run (b ∷ steps) s c d runs kept closing h =
      doomed_run steps (step (machine_of rules) ticks s b) (c + times_answered n (step_resolves rules 0 s b)) (d + times_resolved n (step_resolves rules 0 s b)) runs.1
      (kept_step valid rules stays same peers answers ticks 0 n places is_place s b c d runs.0 kept)
      (closing_step valid rules stays same peers places start closer answers n is_place ticks s b runs.0 kept.order closing)
      (go h)
    where
      by_stop : (x : Bool) → takes_stop b ≡ x → (x || list_any takes_stop steps) ≡ true → IsDoomed q (step (machine_of rules) ticks s b) ⊎ (list_any takes_stop steps ≡ true)
      by_stop true e k = inl (stop_step s b runs.0 kept.order closing e)
      by_stop false e k = inr k

      go : IsDoomed q s ⊎ (list_any takes_stop (b ∷ steps) ≡ true) → IsDoomed q (step (machine_of rules) ticks s b) ⊎ (list_any takes_stop steps ≡ true)
      go (inl d) = inl (doomed_step s b runs.0 kept.order closing d)
      go (inr e) = by_stop (takes_stop b) refl e

  -- ---- at rest

  pub has_quit : (s : State (Snapshot S)) → s.places ≡ places → IsStill (machine_of rules) s.places s.snapshot s.waiting → IsDoomed q s → (s.snapshot q).quit ≢ None
  has_quit s places_are still h = go h
    where
      rest : (p : ℕ) → p < places → AllByRecursion (λ e. is_eligible rules (s.snapshot p) e ≡ false) (all_cached (s.snapshot p).caches)
      rest p less = (carriers_rest rules valid s still).1 p (subst (λ (k : ℕ). p < k) (sym places_are) less)

      go : IsDoomed q s → (s.snapshot q).quit ≢ None
      go (StopLeft some) = let none = none_listed rules (s.snapshot 0) stops stop_is_system (rest 0 is_place) in absurd (omega arith)
      go (KillSent some) = let none : count_by is_kill (s.waiting 0 q) ≡ 0 = ap (count_by is_kill) (still.taken 0 q) in absurd (omega arith)
      go (KillLeft some) = let none = none_listed rules (s.snapshot q) is_kill kill_is_system (rest q below) in absurd (omega arith)
      go (HasQuit gone) = gone
