-- A notice that a driver plays is a step of the run, and Start waits there from the first.
use Rattle.std.proofs.Common.{◌≡◌, ℕ, ◌+◌, ◌-◌, ◌<◌, ◌≤◌, ◌==◌, ◌&&◌, ◌⊎◌, max, Bool, true, false, List, [], ◌∷◌, ◌++◌, length, map, Some, refl, ap, sym, ◌∙◌, subst, arith, inl, inr, length-append, length-drop}
use Rattle.std.specs.Prelude.{slice_get, slice_index_or}
use Rattle.std.proofs.lemmas.List.{append-nil}
use Rattle.std.proofs.Math.Path.{fun_ext}
use Rattle.caf_types.specs.declared.notice.Notice.{Notice}
use Rattle.caf_types.specs.declared.notice.Notice.TheVariants as notice
use Rattle.caf_message.specs.declared.envelope.Taken.{Taken}
use Rattle.caf_message.specs.Envelope.{outside, start_envelope}
use Rattle.caf_message.specs.Outside.{tick, outside_envelope}
use Rattle.caf_actor.specs.declared.snapshot.Snapshot.{Snapshot}
use Rattle.caf_actor.specs.Rules.{Rules}
use Rattle.caf_actor.specs.Actor.{ActorState}
use Rattle.caf_actor.specs.Record.{Machine, machine_of, from_place, to_place, latest, when}
use Rattle.caf_actor.specs.Run.{State, Step, Take, Speak, opening_state, MaySpeak, without, take_batch, send_notice, run, IsRun, batches_of}
use Rattle.caf_record.specs.RunRecord.{journal_at}
use Rattle.caf_record.proofs.ListLemmas.{same_of, and_left, and_right}
use Rattle.caf_record.proofs.MoreTicksLemmas.{run_on}
use Rattle.caf_driver.specs.Driver.{DriverState, journals_of, snapshot_in, ticks_in, unsaid, StandsAs, HasCounted, IsDriven}
use Rattle.caf_driver.specs.Opening.{MayPlay, HasSpoken}
use Rattle.caf_driver.proofs.ListLemmas.{test_of}
use Rattle.caf_driver.proofs.StepLemmas.{batches_append, run_append, run_more, same_places}
use Rattle.caf_driver.proofs.DrivenLemmas.{and_true, nothing_unsaid, ticks_on, ticks_stopped, driven_by}

-- ---- no more waits of the outside than it has sent

module _ {S : Type 0} (m : Machine S) (ticks : ℕ) where
  no_more : (c : Bool) (xs waiting : List Taken) → length (without c xs waiting) ≤ length waiting
  no_more true xs waiting = omega (arith, length-drop (length xs) waiting)
  no_more false xs waiting = omega arith

  few_wait : (s : State S) (steps : List Step) → s.places ≤ outside → IsRun m ticks s steps → length ((run m ticks s steps).waiting outside 0) + s.spoken ≤ length (s.waiting outside 0) + (run m ticks s steps).spoken
  few_wait s [] small h = omega arith
  few_wait s (Take t ∷ steps) small h =
      let later = few_wait (take_batch m s t) steps small h.1 in
      let lt = h.0.place in
      let apart : (outside == t.place) ≡ false = test_of outside t.place (λ e. omega arith) in
      let all : (take_batch m s t).waiting outside 0 ≡ without (0 == t.place) (from_place outside t.batch.taken) (s.waiting outside 0) =
      ap (λ c. without (0 == t.place) (from_place outside t.batch.taken) (s.waiting outside 0) ++ when c (to_place 0 (m.play (s.snapshot outside) t.batch.taken).1)) apart
      ∙ append-nil (without (0 == t.place) (from_place outside t.batch.taken) (s.waiting outside 0)) in
      let count : length ((take_batch m s t).waiting outside 0) ≡ length (without (0 == t.place) (from_place outside t.batch.taken) (s.waiting outside 0)) = ap length all in
      let less = no_more (0 == t.place) (from_place outside t.batch.taken) (s.waiting outside 0) in
      omega arith
  few_wait s (Speak ∷ steps) small h =
      let later = few_wait (send_notice m ticks s) steps small h.1 in
      let count : length ((send_notice m ticks s).waiting outside 0) ≡ length (s.waiting outside 0) + 1 = length-append (s.waiting outside 0) _ in
      omega arith

none_left : (es : List Taken) → length (start_envelope ∷ es) ≤ 1 → es ≡ []
none_left [] h = refl
none_left (e ∷ es) h = absurd (omega arith)

module _ {S : Type 0} (rules : Rules S) (start : ℕ → Snapshot S) (old new : DriverState S) (what : Notice) (stamp : ℕ) (spoken : HasSpoken old what stamp new) (driven : IsDriven rules start old) where
  abbrev m : Machine (Snapshot S)
  m = machine_of rules

  abbrev count : ℕ
  count = length (journals_of old)

  abbrev first : State (Snapshot S)
  first = opening_state count start

  same_count : count ≡ length (journals_of new)
  same_count = ap (λ (all : List (ActorState S)). length (map (λ (a : ActorState S). a.journal) all)) (sym spoken.actors)

  same_journal : (p : ℕ) → journal_at (journals_of old) p ≡ journal_at (journals_of new) p
  same_journal p = ap (λ (all : List (ActorState S)). slice_index_or (map (λ (a : ActorState S). a.journal) all) p []) (sym spoken.actors)

  same_snapshot : (p : ℕ) → snapshot_in start old p ≡ snapshot_in start new p
  same_snapshot p = ap (λ (all : List (ActorState S)). slice_index_or (map (λ (a : ActorState S). a.snapshot) all) p (start p)) (sym spoken.actors)

  counted_too : (p : ℕ) (a : ActorState S) → slice_get new.actors p ≡ Some a → HasCounted (start p) m a
  counted_too p a found = driven.counted p a (ap (λ (all : List (ActorState S)). slice_get all p) (sym spoken.actors) ∙ found)

  -- ---- Start

  module _ (is : what ≡ notice.Start) (silent : old.spoken ≡ 0) (zero_stamp : stamp ≡ 0) (small : count ≤ outside) where
    same_ticks : ticks_in old ≡ ticks_in new
    same_ticks =
        let on : new.has_stopped ≡ false = spoken.stopped ∙ (rw is refl) in
        let now : ticks_in new ≡ new.spoken - 1 = ticks_on new on in
        let more : new.spoken ≡ old.spoken + 1 = spoken.spoken in
        let none : ticks_in old ≡ 0 = by old.has_stopped refl in
        omega arith
      where
        by : (c : Bool) → old.has_stopped ≡ c → ticks_in old ≡ 0
        by true q = let e = ticks_stopped old q in omega arith
        by false q = let e = ticks_on old q in omega arith

    abbrev state : State (Snapshot S)
    state = run m (ticks_in old) first driven.steps

    starts_said : (a b : ℕ) → unsaid old a b ≡ when ((outside == a) && (0 == b)) (start_envelope ∷ [])
    starts_said a b =
        ap (λ n. when (((outside == a) && (0 == b)) && (n == 0)) (start_envelope ∷ [])) silent ∙ ap (λ c. when c (start_envelope ∷ [])) (and_true ((outside == a) && (0 == b)))

    nothing_more : old.waiting outside 0 ≡ []
    nothing_more =
        let few = few_wait m (ticks_in old) first driven.steps small driven.possible in
        let one : state.spoken ≡ max 1 old.spoken = driven.stands.spoken in
        let all : state.waiting outside 0 ≡ start_envelope ∷ old.waiting outside 0 = driven.stands.waiting outside 0 ∙ ap (λ xs. xs ++ old.waiting outside 0) (starts_said outside 0) in
        let count_all : length (state.waiting outside 0) ≡ length (start_envelope ∷ old.waiting outside 0) = ap length all in
        none_left (old.waiting outside 0) (omega arith)

    is_start : outside_envelope (ticks_in new) old.spoken stamp ≡ start_envelope
    is_start = ap (λ n. outside_envelope (ticks_in new) n stamp) silent ∙ ap (λ x. outside_envelope (ticks_in new) 0 x) zero_stamp

    said_now : (a b : ℕ) → unsaid new a b ++ new.waiting a b ≡ old.waiting a b ++ when ((outside == a) && (0 == b)) (start_envelope ∷ [])
    said_now a b =
        let n = spoken.spoken in
        let some : 0 < new.spoken = omega arith in
        ap (λ xs. xs ++ new.waiting a b) (nothing_unsaid new some a b) ∙ spoken.waiting a b
        ∙ ap (λ e. old.waiting a b ++ when ((outside == a) && (0 == b)) (e ∷ [])) is_start

    starts_waiting : (a b : ℕ) (c : Bool) → ((outside == a) && (0 == b)) ≡ c → state.waiting a b ≡ unsaid new a b ++ new.waiting a b
    starts_waiting a b true q =
        let here : outside ≡ a = same_of outside a (and_left (outside == a) (0 == b) q) in
        let there : 0 ≡ b = same_of 0 b (and_right (outside == a) (0 == b) q) in
        let nothing : old.waiting a b ≡ [] = subst (λ x. old.waiting x b ≡ []) here (subst (λ y. old.waiting outside y ≡ []) there nothing_more) in
        driven.stands.waiting a b ∙ ap (λ xs. xs ++ old.waiting a b) (starts_said a b ∙ ap (λ c. when c (start_envelope ∷ [])) q) ∙ ap (λ xs. start_envelope ∷ xs) nothing
        ∙ sym (said_now a b ∙ ap (λ c. old.waiting a b ++ when c (start_envelope ∷ [])) q ∙ ap (λ xs. xs ++ start_envelope ∷ []) nothing)
    starts_waiting a b false q =
        driven.stands.waiting a b ∙ ap (λ xs. xs ++ old.waiting a b) (starts_said a b ∙ ap (λ c. when c (start_envelope ∷ [])) q)
        ∙ sym (said_now a b ∙ ap (λ c. old.waiting a b ++ when c (start_envelope ∷ [])) q ∙ append-nil (old.waiting a b))

    start_driven : IsDriven rules start new
    start_driven =
        let n = spoken.spoken in
        let one : state.spoken ≡ max 1 old.spoken = driven.stands.spoken in
        driven_by rules start (ticks_in old) count new driven.steps same_ticks same_count driven.possible
        (record { snapshots = λ p. driven.stands.snapshots p ∙ same_snapshot p; waiting = λ a b. starts_waiting a b ((outside == a) && (0 == b)) refl; spoken = omega arith })
        (λ p. driven.journals p ∙ same_journal p) counted_too

  -- ---- a tick, or Stop

  module _ (some : 0 < old.spoken) (on : old.has_stopped ≡ false) (still : (a b : ℕ) → old.waiting a b ≡ []) (greatest : stamp ≡ latest m count (snapshot_in start old)) (idle : (p : ℕ) → p < count → m.is_idle (snapshot_in start old p) ≡ true) (le : ticks_in old ≤ ticks_in new) (most : old.spoken ≤ ticks_in new + 1) where
    abbrev before_it : State (Snapshot S)
    before_it = run m (ticks_in old) first driven.steps

    abbrev ready : State (Snapshot S)
    ready = run m (ticks_in new) first driven.steps

    goes_on : IsRun m (ticks_in new) first driven.steps × (ready ≡ before_it)
    goes_on =
        let so_far : before_it.spoken ≡ max 1 old.spoken = driven.stands.spoken in
        let ticks = ticks_on old on in
        run_on m (ticks_in old) (ticks_in new) le first driven.steps driven.possible (omega arith)

    ready_stands : StandsAs start old ready
    ready_stands = subst (λ x. StandsAs start old x) (sym goes_on.1) driven.stands

    ready_spoken : ready.spoken ≡ old.spoken
    ready_spoken = let so_far : ready.spoken ≡ max 1 old.spoken = ready_stands.spoken in omega arith

    ready_waiting : (a b : ℕ) → ready.waiting a b ≡ old.waiting a b
    ready_waiting a b = ready_stands.waiting a b ∙ ap (λ xs. xs ++ old.waiting a b) (nothing_unsaid old some a b)

    ready_places : ready.places ≡ count
    ready_places = same_places m (ticks_in new) first driven.steps

    may_speak : MaySpeak m (ticks_in new) ready
    may_speak = record {
      number = let n = ready_spoken in omega arith;
      rest = record {
        taken = λ a b. ready_waiting a b ∙ still a b;
        idle = λ p lt. ap m.is_idle (ready_stands.snapshots p) ∙ idle p (let n = ready_places in omega arith);
      };
    }

    its_stamp : latest m ready.places ready.snapshot ≡ stamp
    its_stamp = ap (λ n. latest m n ready.snapshot) ready_places ∙ ap (latest m count) (fun_ext ready_stands.snapshots) ∙ sym greatest

    spoken_waiting : (a b : ℕ) → (send_notice m (ticks_in new) ready).waiting a b ≡ unsaid new a b ++ new.waiting a b
    spoken_waiting a b =
        let n = spoken.spoken in
        let said : 0 < new.spoken = omega arith in
        ap (λ xs. xs ++ when ((outside == a) && (0 == b)) (outside_envelope (ticks_in new) ready.spoken (latest m ready.places ready.snapshot) ∷ [])) (ready_waiting a b)
        ∙ ap (λ n. old.waiting a b ++ when ((outside == a) && (0 == b)) (outside_envelope (ticks_in new) n (latest m ready.places ready.snapshot) ∷ [])) ready_spoken
        ∙ ap (λ x. old.waiting a b ++ when ((outside == a) && (0 == b)) (outside_envelope (ticks_in new) old.spoken x ∷ [])) its_stamp
        ∙ sym (ap (λ xs. xs ++ new.waiting a b) (nothing_unsaid new said a b) ∙ spoken.waiting a b)

    speak_driven : IsDriven rules start new
    speak_driven =
        let n = spoken.spoken in
        let so_far = ready_spoken in
        driven_by rules start (ticks_in new) count new (driven.steps ++ Speak ∷ []) refl same_count
        (run_more m (ticks_in new) first driven.steps Speak goes_on.0 may_speak)
        (subst (λ x. StandsAs start new x) (sym (run_append m (ticks_in new) first driven.steps (Speak ∷ [])))
        (record { snapshots = λ p. ready_stands.snapshots p ∙ same_snapshot p; waiting = spoken_waiting; spoken = omega arith }))
        (λ p. batches_append p driven.steps (Speak ∷ []) ∙ append-nil (batches_of p driven.steps) ∙ driven.journals p ∙ same_journal p) counted_too

-- ---- any notice that may be played

pub spoken_driven : {S : Type 0} (rules : Rules S) (start : ℕ → Snapshot S) (old new : DriverState S) (what : Notice) (stamp : ℕ) → length (journals_of old) ≤ outside → MayPlay old what → HasSpoken old what stamp new
    → (what ≡ notice.Start → stamp ≡ 0) → (0 < old.spoken → stamp ≡ latest (machine_of rules) (length (journals_of old)) (snapshot_in start old))
    → (0 < old.spoken → (p : ℕ) → p < length (journals_of old) → (machine_of rules).is_idle (snapshot_in start old p) ≡ true) → IsDriven rules start old → IsDriven rules start new
spoken_driven rules start old new what stamp small (inl first) spoken zero_stamp greatest idle driven =
    start_driven rules start old new what stamp spoken driven first.0 first.1 (zero_stamp first.0) small
spoken_driven rules start old new what stamp small (inr later) spoken zero_stamp greatest idle driven = by later.0
  where
    by : (what ≡ tick) ⊎ (what ≡ notice.Stop) → IsDriven rules start new
    by (inl is) =
        let some : 0 < old.spoken = later.1.0 in
        let on : new.has_stopped ≡ false = spoken.stopped ∙ rw is refl in
        let past = ticks_on old later.1.1.0 in
        let now = ticks_on new on in
        let n = spoken.spoken in
        speak_driven rules start old new what stamp spoken driven some later.1.1.0 later.1.1.1 (greatest some) (idle some) (omega arith) (omega arith)
    by (inr is) =
        let some : 0 < old.spoken = later.1.0 in
        let stopped : new.has_stopped ≡ true = spoken.stopped ∙ rw is refl in
        let past = ticks_on old later.1.1.0 in
        let now = ticks_stopped new stopped in
        let n = spoken.spoken in
        speak_driven rules start old new what stamp spoken driven some later.1.1.0 later.1.1.1 (greatest some) (idle some) (omega arith) (omega arith)
