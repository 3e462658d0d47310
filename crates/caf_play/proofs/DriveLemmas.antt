-- How far a driver is after a notice and a drive, and what its record shows of its ends.
use Rattle.std.proofs.Common.{◌≡◌, ℕ, ◌+◌, ◌<◌, ◌≤◌, ◌==◌, ◌&&◌, ◌⊎◌, Bool, true, false, if◌then◌else◌, List, [], ◌∷◌, ◌++◌, length, Option, Some, None, refl, subst, sym, ap, ◌∙◌, arith, inl, inr}
use Rattle.std.specs.Prelude.{nat_lt, slice_get, Result, Ok, Err, IfOk, OnOk, IfSome, IsNone}
use Rattle.std.specs.List.{list_any}
use Rattle.std.proofs.lemmas.Bool.Decides.{nat_tests}
use Rattle.caf_types.specs.Limits.{latest_stamp}
use Rattle.caf_message.specs.declared.envelope.Taken.{Taken}
use Rattle.caf_message.specs.Envelope.{outside, start_envelope}
use Rattle.caf_actor.specs.declared.snapshot.Snapshot.{Snapshot}
use Rattle.caf_actor.specs.Actor.{ActorState}
use Rattle.caf_actor.specs.Record.{ends, heard, when, handled, IsAtRest}
use Rattle.caf_record.specs.RunRecord.{journal_at}
use Rattle.caf_driver.specs.declared.drive.DriveEnd.{DriveEnd}
use Rattle.caf_driver.specs.declared.drive.DriveEnd.TheVariants as drives
use Rattle.caf_driver.specs.declared.sender_run.SenderRun.{SenderRun}
use Rattle.caf_driver.specs.Driver.{DriverState, journals_of, record_in, ticks_in, IsAllHeard, HasLegalRecord, IsDriven, IsSpent}
use Rattle.caf_driver.specs.Driving.{DriverSeen, state_of}
use Rattle.caf_driver.specs.Ends.{EndsSo}
use Rattle.caf_driver.specs.Stepping.{HasStepped}
use Rattle.caf_driver.proofs.ListLemmas.{get_less, get_some, field_at, fields}
use Rattle.caf_kinds.specs.Kinds.{kind_rules}
use Rattle.caf_kinds.specs.declared.kind.Kind.{Kind}
use Rattle.caf_play.specs.Ending.{machine, sent_notice, waiting_at, IsSpentAt, IsResting, DroveTo, HasDriven}

-- ---- small facts

no_false : false ≡ true → ⊥
no_false h = cc

never : {A : Type 0} → false ≡ true → A
never h = absurd (no_false h)

not_less : (n : ℕ) → nat_lt n n ≡ false
not_less n = grind (arith)

through : (a b c : ℕ) → a ≤ b → b ≤ c → a ≤ c
through a b c p q = omega arith

one_not_more : (n : ℕ) → 1 < n → n ≡ 1 → ⊥
one_not_more n p q = omega arith

pub no_budget : (n : ℕ) → n ≤ n
no_budget n = omega arith

some_not_none : (n : ℕ) → 0 < n → (n == 0) ≡ false
some_not_none n h = grind (arith, nat_tests)

when_none : (b : Bool) → when b [] ≡ []
when_none true = refl
when_none false = refl

when_not : (b c : Bool) (es : List Taken) → c ≡ false → when (b && c) es ≡ []
when_not true true es h = never (sym h)
when_not true false es h = refl
when_not false c es h = refl

pick_none : (b : Bool) (xs : List Taken) → b ≡ false → (if b then xs else []) ≡ []
pick_none true xs h = never (sym h)
pick_none false xs h = refl

-- ---- what waits, and the places that are spent

module _ (start : ℕ → Snapshot Kind) (d : DriverState Kind) (legal : HasLegalRecord kind_rules start d) (some : 0 < d.spoken) where
  pub waiting_same : (a b : ℕ) → d.waiting a b ≡ waiting_at (ticks_in d) d.spoken (record_in start d) a b
  waiting_same a b =
      sym (ap (λ (es : List Taken). es ++ d.waiting a b) (when_not ((outside == a) && (0 == b)) (d.spoken == 0) (start_envelope ∷ []) (some_not_none d.spoken some)))
      ∙ legal.waiting a b

  pub at_end : (p : ℕ) (a : ActorState Kind) → slice_get d.actors p ≡ Some a → a.snapshot ≡ ends machine (record_in start d) p
  at_end p a at = sym (field_at (λ (x : ActorState Kind). x.snapshot) d.actors p a (start p) at) ∙ legal.snapshots p

  pub spent_shown : (p : ℕ) → IsSpent d.actors d.waiting p → IsSpentAt (ticks_in d) d.spoken (record_in start d) p
  spent_shown p spent = record {
    place = subst (λ n. p < n) (sym (fields (λ (x : ActorState Kind). x.journal) d.actors)) (get_less d.actors p spent.actor spent.at);
    waits = (spent.waits.0, λ none. spent.waits.1 (waiting_same spent.waits.0 p ∙ none));
    last = late spent.last;
  }
    where
      late : (spent.actor.snapshot.stamp ≡ latest_stamp) ⊎ ((a : ℕ) × (list_any (λ (e : Taken). e.stamp == latest_stamp) (d.waiting a p) ≡ true))
          → ((ends machine (record_in start d) p).stamp ≡ latest_stamp) ⊎ ((a : ℕ) × (list_any (λ (e : Taken). e.stamp == latest_stamp) (waiting_at (ticks_in d) d.spoken (record_in start d) a p) ≡ true))
      late (inl h) = inl (ap (λ (s : Snapshot Kind). s.stamp) (sym (at_end p spent.actor spent.at)) ∙ h)
      late (inr h) = inr (h.0, ap (λ (es : List Taken). list_any (λ (e : Taken). e.stamp == latest_stamp) es) (sym (waiting_same h.0 p)) ∙ h.1)

  pub shown_spent : (p : ℕ) → IsSpentAt (ticks_in d) d.spoken (record_in start d) p → IsSpent d.actors d.waiting p
  shown_spent p spent = record {
    actor = it.0;
    at = it.1;
    waits = (spent.waits.0, λ none. spent.waits.1 (sym (waiting_same spent.waits.0 p) ∙ none));
    last = late spent.last;
  }
    where
      it : (a : ActorState Kind) × (slice_get d.actors p ≡ Some a)
      it = get_some d.actors p (subst (λ n. p < n) (fields (λ (x : ActorState Kind). x.journal) d.actors) spent.place)

      late : ((ends machine (record_in start d) p).stamp ≡ latest_stamp) ⊎ ((a : ℕ) × (list_any (λ (e : Taken). e.stamp == latest_stamp) (waiting_at (ticks_in d) d.spoken (record_in start d) a p) ≡ true))
          → (it.0.snapshot.stamp ≡ latest_stamp) ⊎ ((a : ℕ) × (list_any (λ (e : Taken). e.stamp == latest_stamp) (d.waiting a p) ≡ true))
      late (inl h) = inl (ap (λ (s : Snapshot Kind). s.stamp) (at_end p it.0 it.1) ∙ h)
      late (inr h) = inr (h.0, ap (λ (es : List Taken). list_any (λ (e : Taken). e.stamp == latest_stamp) es) (waiting_same h.0 p) ∙ h.1)

  -- nothing waits where the record is at rest and all notices were taken
  pub none_waits : IsAtRest machine (record_in start d) → IsAllHeard d → (a b : ℕ) → d.waiting a b ≡ []
  none_waits rest all a b =
      waiting_same a b
      ∙ ap (λ (es : List Taken). es ++ when ((outside == a) && (0 == b)) (sent_notice (ticks_in d) d.spoken (record_in start d))) (rest.taken a b)
      ∙ ap (λ (es : List Taken). when ((outside == a) && (0 == b)) es)
      (pick_none (nat_lt (length (heard (journal_at (journals_of d) 0)) + 1) d.spoken) _ (ap (λ n. nat_lt n d.spoken) all ∙ not_less d.spoken))
      ∙ when_none ((outside == a) && (0 == b))

-- ---- a drive

module _ (start : ℕ → Snapshot Kind) (budget limit sent : ℕ) (d : DriverState Kind) (low : budget ≤ limit) (which : (limit ≡ budget) ⊎ (1 < sent)) where
  under : (n : ℕ) → (limit ≡ budget) ⊎ (1 < sent) → d.spoken ≡ sent → n < limit → d.spoken ≡ 1 → n < budget
  under n (inl same) spoken h one = subst (λ m. n < m) same h
  under n (inr more) spoken h one = absurd (one_not_more sent more (sym spoken ∙ one))

  drove : (e : DriveEnd) → d.spoken ≡ sent → EndsSo kind_rules start limit d e → DroveTo start budget d e
  drove drives.Rest spoken so = so
  drove drives.Budget spoken so = (so.0, through budget limit (handled machine (record_in start d)) low so.1)
  drove (drives.Exhausted p) spoken so = (so.0, under (handled machine (record_in start d)) which spoken so.1)

  pub drove_all : {E : Type 0} (r : Result DriveEnd E) (before : ℕ) (stopped : Bool) → before ≡ sent → stopped ≡ false
      → OnOk r (IsDriven kind_rules start d) → OnOk r (HasLegalRecord kind_rules start d) → IfOk r (EndsSo kind_rules start limit d)
      → OnOk r ((d.spoken ≡ before) × (d.has_stopped ≡ stopped)) → IfOk r (HasDriven budget sent start d)
  drove_all (Ok e) before stopped same going led legal so said = record { driven = led; legal = legal; spoken = said.0 ∙ same; unstopped = said.1 ∙ going; so = drove e (said.0 ∙ same) so }
  drove_all (Err x) before stopped same going led legal so said = tt

pub rests : (start : ℕ → Snapshot Kind) (budget sent : ℕ) (d : DriverState Kind) {E : Type 0} (r : Result DriveEnd E) → 0 < sent → IfOk r (HasDriven budget sent start d) → r ≡ Ok drives.Rest → IsResting sent d
rests start budget sent d r some all is =
    let h : HasDriven budget sent start d drives.Rest = subst (λ x. IfOk x (HasDriven budget sent start d)) is all in
    record { spoken = h.spoken; some = some; unstopped = h.unstopped; none = none_waits start d h.legal (subst (λ n. 0 < n) (sym h.spoken) some) h.so.0 h.so.1 }

pub resting_own : (sent : ℕ) (d : DriverState Kind) → IsResting sent d → IsResting d.spoken d
resting_own sent d h = record { spoken = refl; some = subst (λ n. 0 < n) (sym h.spoken) h.some; unstopped = h.unstopped; none = h.none }

-- ---- a batch that is named, or refused

pub stepped_notices : (runs : List SenderRun) (old new : DriverSeen Kind) (o : Option ℕ) → IfSome o (λ stamp. HasStepped kind_rules 0 runs stamp (state_of old) (state_of new)) → (IsNone o → new ≡ old) → (new.spoken ≡ old.spoken) × (new.has_stopped ≡ old.has_stopped)
stepped_notices runs old new (Some stamp) h kept = (h.spoken, h.stopped)
stepped_notices runs old new None h kept = let same : new ≡ old = kept refl in (ap (λ (x : DriverSeen Kind). x.spoken) same, ap (λ (x : DriverSeen Kind). x.has_stopped) same)
