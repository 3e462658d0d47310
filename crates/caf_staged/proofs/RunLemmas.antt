-- How far a run of scripted actors is, after a notice and after a drive.
use Rattle.std.proofs.Common.{◌≡◌, ℕ, ◌+◌, ◌<◌, ◌==◌, ◌&&◌, Bool, true, false, if◌then◌else◌, List, [], ◌∷◌, ◌++◌, length, map, refl, subst, sym, ap, ◌∙◌, arith, inl, inr}
use Rattle.std.specs.Prelude.{nat_lt, slice_index_or}
use Rattle.caf_types.specs.declared.notice.Notice.{Notice}
use Rattle.caf_types.specs.declared.notice.Notice.TheVariants as notice
use Rattle.caf_message.specs.declared.envelope.Taken.{Taken}
use Rattle.caf_message.specs.Envelope.{outside}
use Rattle.caf_message.specs.Outside.{tick}
use Rattle.caf_actor.specs.declared.snapshot.Snapshot.{Snapshot}
use Rattle.caf_actor.specs.Actor.{ActorState}
use Rattle.caf_actor.specs.Record.{machine_of, heard, when, IsAtRest}
use Rattle.caf_actor.specs.Rules.{Rules}
use Rattle.caf_record.specs.RunRecord.{journal_at}
use Rattle.caf_driver.specs.declared.drive.DriveEnd.{DriveEnd}
use Rattle.caf_driver.specs.declared.drive.DriveEnd.TheVariants as ends
use Rattle.caf_driver.specs.declared.sender_run.SenderRun.{SenderRun}
use Rattle.caf_driver.specs.Driver.{DriverState, journals_of, record_in, unsaid, unheard, IsAllHeard, HasLegalRecord, IsDriven}
use Rattle.caf_driver.specs.Ends.{EndsSo}
use Rattle.caf_driver.specs.Opening.{StartsAt, MayPlay, HasSpoken, is_stop_notice}
use Rattle.caf_driver.specs.Stepping.{HasStepped}
use Rattle.caf_driver.proofs.ListLemmas.{field_at}
use Rattle.caf_scripted.specs.declared.scripted.Scripted.{Scripted}
use Rattle.caf_scripted.specs.Scripted.{scripted_rules}
use Rattle.caf_staged.specs.declared.phase.Phase.{Phase}
use Rattle.caf_staged.specs.declared.phase.Phase.TheVariants as phase
use Rattle.caf_staged.specs.Phase.{is_whole, is_fresh, is_going, is_open, is_resting, phase_at, phase_after, phase_stepped}
use Rattle.caf_staged.specs.Run.{StandsSomewhere, IsSoFar}

-- ---- small facts, each with nothing in scope that computes long

no_false : false ≡ true → ⊥
no_false h = cc

never : {A : Type 0} → false ≡ true → A
never h = absurd (no_false h)

some_more : (n : ℕ) → 0 < n + 1
some_more n = omega arith

not_less : (n : ℕ) → nat_lt n n ≡ false
not_less n = grind (arith)

none_behind : {A : Type 0} (xs ys : List A) → xs ++ ys ≡ [] → ys ≡ []
none_behind [] ys q = q
none_behind (x ∷ xs) ys q = cc

when_none : (b : Bool) → when b [] ≡ []
when_none true = refl
when_none false = refl

pick_none : (b : Bool) (xs : List Taken) → b ≡ false → (if b then xs else []) ≡ []
pick_none true xs h = never (sym h)
pick_none false xs h = refl

whole_fresh : (p : Phase) → is_fresh p ≡ true → is_whole p ≡ true
whole_fresh phase.Fresh h = refl
whole_fresh phase.Going h = refl
whole_fresh phase.Resting h = refl
whole_fresh phase.Stopped h = refl
whole_fresh phase.Broken h = never h

whole_going : (p : Phase) → is_going p ≡ true → is_whole p ≡ true
whole_going phase.Fresh h = refl
whole_going phase.Going h = refl
whole_going phase.Resting h = refl
whole_going phase.Stopped h = refl
whole_going phase.Broken h = never h

going_resting : (p : Phase) → is_resting p ≡ true → is_going p ≡ true
going_resting phase.Fresh h = never h
going_resting phase.Going h = refl
going_resting phase.Resting h = refl
going_resting phase.Stopped h = refl
going_resting phase.Broken h = never h

open_resting : (p : Phase) → is_resting p ≡ true → is_open p ≡ true
open_resting phase.Fresh h = never h
open_resting phase.Going h = refl
open_resting phase.Resting h = refl
open_resting phase.Stopped h = never h
open_resting phase.Broken h = never h

-- ---- at first

-- some actors start somewhere
pub starts_of : {S : Type 0} (actors : List (ActorState S)) → 0 < length actors → (start : ℕ → Snapshot S) × StartsAt start actors
starts_of [] some = absurd (omega arith)
starts_of {S} (a ∷ others) some = ((λ p. slice_index_or (map (λ (x : ActorState S). x.snapshot) (a ∷ others)) p a.snapshot), λ p x q. sym (field_at (λ (y : ActorState S). y.snapshot) (a ∷ others) p x a.snapshot q))

pub far_at_first : (d : DriverState Scripted) → StandsSomewhere d → d.spoken ≡ 0 → IsSoFar phase.Fresh d
far_at_first d stands none = record { stands = λ h. stands; fresh = λ h. none; going = λ h. never h; unstopped = λ h. never h; resting = λ h. never h }

-- memory was wanted
pub far_broken : (d : DriverState Scripted) → IsSoFar phase.Broken d
far_broken d = record { stands = λ h. never h; fresh = λ h. never h; going = λ h. never h; unstopped = λ h. never h; resting = λ h. never h }

-- ---- notices

module _ (d : DriverState Scripted) (p : Phase) (far : IsSoFar p d) where
  pub may_start : is_fresh p ≡ true → MayPlay d notice.Start
  may_start h = inl (refl, far.fresh h)

  pub may_tick : is_resting p ≡ true → MayPlay d tick
  may_tick h = inr (inl refl, (far.going (going_resting p h), (far.unstopped (open_resting p h), far.resting h)))

  pub may_stop : is_resting p ≡ true → MayPlay d notice.Stop
  may_stop h = inr (inr refl, (far.going (going_resting p h), (far.unstopped (open_resting p h), far.resting h)))

  pub stands_fresh : is_fresh p ≡ true → StandsSomewhere d
  stands_fresh h = far.stands (whole_fresh p h)

  pub stands_going : is_going p ≡ true → StandsSomewhere d
  stands_going h = far.stands (whole_going p h)

  pub stands_resting : is_resting p ≡ true → StandsSomewhere d
  stands_resting h = far.stands (whole_going p (going_resting p h))

-- after a notice that isn't Stop
pub far_spoken : (old new : DriverState Scripted) (what : Notice) (stamp : ℕ) → HasSpoken old what stamp new → is_stop_notice what ≡ false → StandsSomewhere new → IsSoFar phase.Going new
far_spoken old new what stamp said other stands = record {
  stands = λ h. stands;
  fresh = λ h. never h;
  going = λ h. subst (λ n. 0 < n) (sym said.spoken) (some_more old.spoken);
  unstopped = λ h. said.stopped ∙ other;
  resting = λ h. never h;
}

-- after Stop
pub far_stopped : (old new : DriverState Scripted) (what : Notice) (stamp : ℕ) → HasSpoken old what stamp new → StandsSomewhere new → IsSoFar phase.Stopped new
far_stopped old new what stamp said stands = record {
  stands = λ h. stands;
  fresh = λ h. never h;
  going = λ h. subst (λ n. 0 < n) (sym said.spoken) (some_more old.spoken);
  unstopped = λ h. never h;
  resting = λ h. never h;
}

-- ---- at a rest

module _ {S : Type 0} (rules : Rules S) (start : ℕ → Snapshot S) (d : DriverState S) where
  unheard_none : IsAllHeard d → unheard rules start d ≡ []
  unheard_none all = pick_none (nat_lt (length (heard (journal_at (journals_of d) 0)) + 1) d.spoken) _ (ap (λ n. nat_lt n d.spoken) all ∙ not_less d.spoken)

  -- nothing waits where the record is at rest and all notices were taken
  pub none_waits : HasLegalRecord rules start d → IsAtRest (machine_of rules) (record_in start d) → IsAllHeard d → (a b : ℕ) → d.waiting a b ≡ []
  none_waits h rest all a b =
      none_behind (unsaid d a b) (d.waiting a b)
      (h.waiting a b ∙ ap (λ (es : List Taken). es ++ when ((outside == a) && (0 == b)) (unheard rules start d)) (rest.taken a b)
      ∙ ap (λ (es : List Taken). when ((outside == a) && (0 == b)) es) (unheard_none all) ∙ when_none ((outside == a) && (0 == b)))

-- ---- a drive, and a batch that is named

module _ (new : DriverState Scripted) (stands : StandsSomewhere new) (said : 0 < new.spoken) where
  far_going : new.has_stopped ≡ false → IsSoFar phase.Going new
  far_going s = record { stands = λ h. stands; fresh = λ h. never h; going = λ h. said; unstopped = λ h. s; resting = λ h. never h }

  far_resting : new.has_stopped ≡ false → ((a b : ℕ) → new.waiting a b ≡ []) → IsSoFar phase.Resting new
  far_resting s none = record { stands = λ h. stands; fresh = λ h. never h; going = λ h. said; unstopped = λ h. s; resting = λ h. none }

  far_at_end : IsSoFar phase.Stopped new
  far_at_end = record { stands = λ h. stands; fresh = λ h. never h; going = λ h. said; unstopped = λ h. never h; resting = λ h. never h }

module _ (start : ℕ → Snapshot Scripted) (old new : DriverState Scripted) (budget : ℕ) (spoken : new.spoken ≡ old.spoken) (stopped : new.has_stopped ≡ old.has_stopped) (driven : IsDriven scripted_rules start new) (legal : HasLegalRecord scripted_rules start new) where
  some_said : 0 < old.spoken → 0 < new.spoken
  some_said h = subst (λ n. 0 < n) (sym spoken) h

  unstopped_at : (e : DriveEnd) → 0 < old.spoken → old.has_stopped ≡ false → EndsSo scripted_rules start budget new e → IsSoFar (phase_at e) new
  unstopped_at ends.Rest h s so = far_resting new (start, driven) (some_said h) (stopped ∙ s) (none_waits scripted_rules start new legal so.0 so.1)
  unstopped_at ends.Budget h s so = far_going new (start, driven) (some_said h) (stopped ∙ s)
  unstopped_at (ends.Exhausted q) h s so = far_going new (start, driven) (some_said h) (stopped ∙ s)

  pub far_after : (p : Phase) (e : DriveEnd) → is_going p ≡ true → IsSoFar p old → EndsSo scripted_rules start budget new e → IsSoFar (phase_after p e) new
  far_after phase.Fresh e h far so = never h
  far_after phase.Going e h far so = unstopped_at e (far.going refl) (far.unstopped refl) so
  far_after phase.Resting e h far so = unstopped_at e (far.going refl) (far.unstopped refl) so
  far_after phase.Stopped e h far so = far_at_end new (start, driven) (some_said (far.going refl))
  far_after phase.Broken e h far so = never h

-- after a batch that was named and taken
pub far_stepped : (place : ℕ) (runs : List SenderRun) (stamp : ℕ) (old new : DriverState Scripted) → HasStepped scripted_rules place runs stamp old new → StandsSomewhere new → (p : Phase) → IsSoFar p old → IsSoFar (phase_stepped p) new
far_stepped place runs stamp old new step stands phase.Fresh far = far_at_first new stands (step.spoken ∙ far.fresh refl)
far_stepped place runs stamp old new step stands phase.Going far = far_going new stands (subst (λ n. 0 < n) (sym step.spoken) (far.going refl)) (step.stopped ∙ far.unstopped refl)
far_stepped place runs stamp old new step stands phase.Resting far = far_going new stands (subst (λ n. 0 < n) (sym step.spoken) (far.going refl)) (step.stopped ∙ far.unstopped refl)
far_stepped place runs stamp old new step stands phase.Stopped far = far_at_end new stands (subst (λ n. 0 < n) (sym step.spoken) (far.going refl))
far_stepped place runs stamp old new step stands phase.Broken far = far_broken new
