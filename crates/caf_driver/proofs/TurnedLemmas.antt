-- A driver after a turn, and at an end.
use Rattle.std.proofs.Common.{◌≡◌, ◌≢◌, ℕ, zero, suc, ◌+◌, ◌<◌, ◌≤◌, ◌==◌, max, Bool, true, false, List, [], ◌∷◌, ◌++◌, length, slice_get, slice_set, Some, refl, ap, sym, ◌∙◌, subst, arith, inl, inr, ◌⊎◌}
use Rattle.std.specs.List.{AllByRecursion}
use Rattle.std.proofs.lemmas.Bool.{cases_lt}
use Rattle.std.proofs.lemmas.Bool.Decides.{nat_tests}
use Rattle.std.proofs.lemmas.List.{append-nil}
use Rattle.caf_types.specs.Limits.{latest_stamp}
use Rattle.caf_message.specs.declared.envelope.Taken.{Taken}
use Rattle.caf_message.specs.Entries.{TableEntries}
use Rattle.caf_message.specs.Envelope.{outside}
use Rattle.caf_actor.specs.declared.snapshot.Snapshot.{Snapshot}
use Rattle.caf_actor.specs.Actor.{ActorState}
use Rattle.caf_actor.specs.Drain.{batch_of, stamp_due}
use Rattle.caf_actor.specs.Record.{machine_of, IsPrefix, from_place, to_place, when, handled, IsAtRest}
use Rattle.caf_actor.specs.Rules.{Rules}
use Rattle.caf_actor.specs.Run.{without}
use Rattle.caf_actor.proofs.StampLemmas.{taken_before, stamp_after, stamp_rises}
use Rattle.caf_record.proofs.BatchLemmas.{all_from}
use Rattle.caf_record.proofs.ListLemmas.{same_of}
use Rattle.caf_driver.specs.declared.drive.DriveEnd.{DriveEnd}
use Rattle.caf_driver.specs.declared.drive.DriveEnd.TheVariants as ends
use Rattle.caf_driver.specs.Mail.{waiting_in}
use Rattle.caf_driver.specs.Population.{PopulationSeen, greatest_of, IsPopulation}
use Rattle.caf_driver.specs.Driver.{DriverState, journals_of, record_in, IsAllHeard, IsDriven}
use Rattle.caf_driver.specs.Ends.{EndsSo}
use Rattle.caf_driver.specs.Driving.{IsDriving, IsSettled, room_of, EndsNow, HasTurned}
use Rattle.caf_driver.proofs.ListLemmas.{get_less, fields}
use Rattle.caf_driver.proofs.PopulationLemmas.{greatest_set}
use Rattle.caf_driver.proofs.DrivingLemmas.{next_of, without_of, left_all}
use Rattle.caf_driver.proofs.TurnLemmas.{turn_driven}
use Rattle.caf_driver.proofs.LegalLemmas.{rest_driven}
use Rattle.caf_driver.proofs.HandledLemmas.{handled_driven}

set_here : {A : Type 0} (xs : List A) (i : ℕ) (x y : A) → slice_get xs i ≡ Some x → slice_get (slice_set xs i y) i ≡ Some y
set_here [] i x y q = cc
set_here (z ∷ xs) zero x y q = refl
set_here (z ∷ xs) (suc i) x y q = set_here xs i x y q

room_set : {S : Type 0} (actors : List (ActorState S)) (i : ℕ) (before after : ActorState S) → slice_get actors i ≡ Some before → before.snapshot.stamp < after.snapshot.stamp → after.snapshot.stamp ≤ latest_stamp
    → room_of (slice_set actors i after) < room_of actors
room_set [] i before after q rises low = cc
room_set (a ∷ others) zero before after q rises low =
    let same : a ≡ before = cc in
    let stamp = ap (λ x. x.snapshot.stamp) same in
    omega arith
room_set (a ∷ others) (suc i) before after q rises low =
    let less = room_set others i before after q rises low in
    omega arith

module _ {S : Type 0} (valid : S → Type 0) (rules : Rules S) (entries : TableEntries) (old new : PopulationSeen S) (h : IsPopulation valid rules entries old) (now : IsPopulation valid rules entries new) (t : HasTurned rules old new) where
  due : ℕ
  due = stamp_due t.taken.before.snapshot.stamp t.batch

  after_is : t.taken.after.snapshot.stamp ≡ stamp_due t.taken.before.snapshot.stamp t.batch
  after_is = ap (λ s. s.stamp) t.taken.played.snapshot ∙ stamp_after rules t.taken.before.snapshot t.batch

  rises : t.taken.before.snapshot.stamp < t.taken.after.snapshot.stamp
  rises = let up = stamp_rises t.taken.before.snapshot.stamp t.batch in let is = after_is in omega arith

  greatest_now : new.latest ≡ max old.latest t.taken.after.snapshot.stamp
  greatest_now =
      let low : t.taken.before.snapshot.stamp ≤ t.taken.after.snapshot.stamp = (let r = rises in omega arith) in
      now.latest ∙ ap greatest_of t.taken.actors ∙ greatest_set old.actors t.place t.taken.before t.taken.after t.taken.at low ∙ ap (λ n. max n t.taken.after.snapshot.stamp) (sym h.latest)

  pub room_less : room_of new.actors < room_of old.actors
  room_less =
      let here = ap (λ list. slice_get list t.place) t.taken.actors ∙ set_here old.actors t.place t.taken.before t.taken.after t.taken.at in
      let low = (now.ready t.place t.taken.after here).work.stamp in
      subst (λ list. room_of list < room_of old.actors) (sym t.taken.actors) (room_set old.actors t.place t.taken.before t.taken.after t.taken.at rises low)

  is_place : t.place < outside
  is_place = let less = get_less old.actors t.place t.taken.before t.taken.at in let few = h.few in omega arith

  -- the outside sends nothing in a turn
  outside_left : waiting_in new.mail outside 0 ≡ waiting_in t.left outside 0
  outside_left =
      let other : (outside == t.place) ≡ false = apart t.place is_place in
      t.taken.waiting outside 0 ∙ rw other (append-nil (waiting_in t.left outside 0))
    where
      apart : (n : ℕ) → n < outside → (outside == n) ≡ false
      apart n less = grind (arith, nat_tests)

  pub driving_turned : (spoken : ℕ) → 0 < spoken → IsDriving valid rules entries old spoken → IsDriving valid rules entries new spoken
  driving_turned spoken some was = record {
    population = now;
    silent = λ none. absurd (omega arith);
    heard = λ none. go (waiting_in old.mail outside 0) refl none;
    notices = subst (AllByRecursion (λ (e : Taken). spoken ≤ e.stamp + 1)) (sym outside_left) (left_all old.mail t.place t.batch t.left t.out (λ (e : Taken). spoken ≤ e.stamp + 1) outside 0 was.notices);
  }
    where
      -- what was taken of the outside has a lesser stamp than the batch
      of_outside : (es : List Taken) → es ≢ [] → AllByRecursion (λ (e : Taken). spoken ≤ e.stamp + 1) es → AllByRecursion (λ (e : Taken). e.stamp < stamp_due t.taken.before.snapshot.stamp t.batch) es → spoken ≤ stamp_due t.taken.before.snapshot.stamp t.batch
      of_outside [] some low high = absurd (some refl)
      of_outside (e ∷ es) some low high = let a = low.0 in let b = high.0 in omega arith

      some_of : (e : Taken) (es : List Taken) → e ∷ es ≡ [] → ⊥
      some_of e es q = cc

      go : (es : List Taken) → waiting_in old.mail outside 0 ≡ es → waiting_in new.mail outside 0 ≡ [] → spoken ≤ new.latest
      go [] q none = let low = was.heard q in let is = greatest_now in omega arith
      go (e ∷ es) q none = here (0 == t.place) refl
        where
          left_none : waiting_in t.left outside 0 ≡ []
          left_none = sym outside_left ∙ none

          here : (b : Bool) → (0 == t.place) ≡ b → spoken ≤ new.latest
          here false r = absurd (some_of e es (sym q ∙ sym (t.out.others outside 0 r) ∙ left_none))
          here true r =
              let zero_place : 0 ≡ t.place = same_of 0 t.place r in
              let next : from_place outside t.batch ++ waiting_in t.left outside 0 ≡ waiting_in old.mail outside 0 = subst (λ k. from_place outside t.batch ++ waiting_in t.left outside k ≡ waiting_in old.mail outside k) (sym zero_place) (t.out.next outside) in
              let all : from_place outside t.batch ≡ waiting_in old.mail outside 0 = sym (append-nil (from_place outside t.batch)) ∙ ap (λ xs. from_place outside t.batch ++ xs) (sym left_none) ∙ next in
              let some : from_place outside t.batch ≢ [] = λ empty. some_of e es (sym q ∙ sym all ∙ empty) in
              let low = subst (AllByRecursion (λ (x : Taken). spoken ≤ x.stamp + 1)) (sym all) was.notices in
              let high = all_from (λ (x : Taken). x.stamp < stamp_due t.taken.before.snapshot.stamp t.batch) outside t.batch (taken_before t.taken.before.snapshot.stamp t.batch) in
              let most = of_outside (from_place outside t.batch) some low high in
              let is = greatest_now in
              let stamp = after_is in
              omega arith

module _ {S : Type 0} (rules : Rules S) (start : ℕ → Snapshot S) where
  pub driven_turned : (d e : DriverState S) (old new : PopulationSeen S) → d.actors ≡ old.actors → ((a b : ℕ) → d.waiting a b ≡ waiting_in old.mail a b) → e.actors ≡ new.actors → ((a b : ℕ) → e.waiting a b ≡ waiting_in new.mail a b)
      → e.spoken ≡ d.spoken → e.has_stopped ≡ d.has_stopped → 0 < d.spoken → HasTurned rules old new → IsDriven rules start d → IsDriven rules start e
  driven_turned d e old new da dw ea ew spoken stopped started t driven =
      turn_driven rules start d e t.place t.batch t.taken.before t.taken.after
      (ap (λ list. slice_get list t.place) da ∙ t.taken.at)
      (ea ∙ t.taken.actors ∙ ap (λ list. slice_set list t.place t.taken.after) (sym da))
      t.taken.played t.filled
      (λ a. subst (λ xs. IsPrefix (from_place a t.batch) xs) (sym (dw a t.place)) (next_of old.mail t.place t.batch t.left t.out a))
      (λ a b. ew a b ∙ t.taken.waiting a b
      ∙ ap (λ xs. xs ++ when (a == t.place) (to_place b (batch_of rules t.taken.before.snapshot t.batch).posts)) (without_of old.mail t.place t.batch t.left t.out a b ∙ ap (without (b == t.place) (from_place a t.batch)) (sym (dw a b))))
      spoken stopped started driven

  pub few_of : (d : DriverState S) → IsSettled rules d → length (journals_of d) ≤ outside
  few_of d h = let same = fields (λ (a : ActorState S). a.journal) d.actors in let few = h.few in omega arith

  pub rests_driven : (d : DriverState S) (budget : ℕ) (end : DriveEnd) → IsSettled rules d → 0 < d.spoken → IsDriven rules start d → EndsNow budget d end → end ≡ ends.Rest → IsAtRest (machine_of rules) (record_in start d) × IsAllHeard d
  rests_driven d budget end h started driven now is = rest_driven rules start d (few_of d h) driven started (subst (λ e. EndsNow budget d e) is now) h.idle

  pub ends_driven : (d : DriverState S) (budget : ℕ) (end : DriveEnd) → budget ≤ 18446744073709551615 → IsSettled rules d → 0 < d.spoken → IsDriven rules start d → EndsNow budget d end → EndsSo rules start budget d end
  ends_driven d budget ends.Rest low h started driven now = rest_driven rules start d (few_of d h) driven started now h.idle
  ends_driven d budget ends.Budget low h started driven now = (now.0, (handled_driven rules start d (few_of d h) driven budget low).0 now.1)
  ends_driven d budget (ends.Exhausted p) low h started driven now = (now.0, go (cases_lt (handled (machine_of rules) (record_in start d)) budget))
    where
      go : (handled (machine_of rules) (record_in start d) < budget) ⊎ (budget ≤ handled (machine_of rules) (record_in start d)) → handled (machine_of rules) (record_in start d) < budget
      go (inl less) = less
      go (inr ge) = let le = (handled_driven rules start d (few_of d h) driven budget low).1 ge in let less = now.1 in absurd (omega arith)
