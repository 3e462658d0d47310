-- A batch that is named from outside: when it may be taken, and what it leaves.
use Rattle.std.proofs.Common.{◌≡◌, ◌≢◌, ℕ, zero, suc, ◌<◌, ◌==◌, Bool, true, false, List, [], ◌∷◌, length, slice_get, Option, Some, None, Result, Ok, Err, IfOk, IfSome, IsNone, refl, sym, ◌∙◌, subst, arith}
use Rattle.std.specs.List.{AllByRecursion}
use Rattle.caf_types.specs.Limits.{latest_stamp}
use Rattle.caf_message.specs.declared.envelope.Taken.{Taken}
use Rattle.caf_message.specs.Entries.{TableEntries, entry_shape}
use Rattle.caf_actor.specs.Actor.{ActorState}
use Rattle.caf_actor.specs.Rules.{Rules}
use Rattle.caf_driver.specs.declared.sender_run.SenderRun.{SenderRun}
use Rattle.caf_driver.specs.Places.{is_filled}
use Rattle.caf_driver.specs.Mail.{Waiting, waiting_in}
use Rattle.caf_driver.specs.Delivery.{HasTakenOut}
use Rattle.caf_driver.specs.Population.{PopulationSeen, IsSound, HasPlayed, IsPopulation}
use Rattle.caf_driver.specs.Driving.{IsDriving, HasTurned}
use Rattle.caf_driver.specs.Runs.{is_batch}
use Rattle.caf_driver.specs.Stepping.{batch_by, MayStep, HasTakenRuns, HasStepped}
use Rattle.caf_driver.proofs.DrivingLemmas.{taken_all, low_stamps}
use Rattle.caf_driver.proofs.RunsLemmas.{batch_filled, batch_early, none_taken}

filled_some : {A : Type 0} (xs : List A) → is_filled xs ≡ true → xs ≢ []
filled_some [] q e = cc
filled_some (x ∷ xs) q e = cc

-- ---- answers

pub ok_through : {A E : Type 0} (P Q : A → Type 0) → ((a : A) → P a → Q a) → (r : Result A E) → IfOk r P → IfOk r Q
ok_through P Q f (Ok a) h = f a h
ok_through P Q f (Err e) h = tt

pub by_answer : {A : Type 0} (P : Type 0) (answer : Option A) → (IsNone answer → P) → ((a : A) → answer ≡ Some a → P) → P
by_answer P None none some = none refl
by_answer P (Some a) none some = some a refl

pub some_through : {A : Type 0} (P Q : A → Type 0) → ((a : A) → P a → Q a) → (answer : Option A) → IfSome answer P → IfSome answer Q
some_through P Q f None h = tt
some_through P Q f (Some a) h = f a h

-- ---- whether it may be taken

module _ {S : Type 0} (actors : List (ActorState S)) (waiting : ℕ → ℕ → List Taken) (place : ℕ) (runs : List SenderRun) where
  module _ (actor : ActorState S) (at : slice_get actors place ≡ Some actor) where
    pub may_step : actor.snapshot.stamp < latest_stamp → is_batch (λ a. waiting a place) runs ≡ true → MayStep actors waiting place runs
    may_step early batch = record { actor = actor; at = at; early = early; batch = batch }

  pub no_batch : is_batch (λ a. waiting a place) runs ≡ false → MayStep actors waiting place runs → ⊥
  no_batch none may = let wrong : false ≡ true = sym none ∙ may.batch in cc

  pub batch_is_filled : MayStep actors waiting place runs → batch_by waiting place runs ≢ []
  batch_is_filled may = filled_some (batch_by waiting place runs) (batch_filled (λ a. waiting a place) runs may.batch)

-- ---- what is taken

module _ {S : Type 0} (valid : S → Type 0) (rules : Rules S) (entries : TableEntries) (p : PopulationSeen S) (place : ℕ) (runs : List SenderRun) (h : IsPopulation valid rules entries p) (may : MayStep p.actors (waiting_in p.mail) place runs)
    (left : Waiting) (out : HasTakenOut p.mail place (batch_by (waiting_in p.mail) place runs) left) where
  pub named_sound : AllByRecursion (IsSound (entry_shape entries) (length p.actors) p.latest) (batch_by (waiting_in p.mail) place runs)
  named_sound = taken_all p.mail place (batch_by (waiting_in p.mail) place runs) left out (IsSound (entry_shape entries) (length p.actors) p.latest) (λ a. h.sound a place)

  pub named_early : AllByRecursion (λ (e : Taken). e.stamp < latest_stamp) (batch_by (waiting_in p.mail) place runs)
  named_early = low_stamps valid rules entries p h (batch_by (waiting_in p.mail) place runs) named_sound (batch_early (λ a. waiting_in p.mail a place) runs may.batch)

-- ---- a step is a turn

module _ {S : Type 0} (rules : Rules S) (place : ℕ) (runs : List SenderRun) (stamp : ℕ) (old new : PopulationSeen S) (t : HasTakenRuns rules place runs stamp old new) where
  pub turned_by_runs : HasTurned rules old new
  turned_by_runs = record {
    place = place;
    batch = batch_by (waiting_in old.mail) place runs;
    left = t.left;
    out = t.out;
    filled = batch_is_filled old.actors (waiting_in old.mail) place runs t.may;
    taken = t.taken;
  }

  -- Start was played, since something waits
  pub has_started : (valid : S → Type 0) (entries : TableEntries) (spoken : ℕ) → IsDriving valid rules entries old spoken → 0 < spoken
  has_started valid entries spoken was = go (spoken == 0) refl
    where
      some : (n : ℕ) → (n == 0) ≡ false → 0 < n
      some zero q = cc
      some (suc n) q = omega arith

      none : (n : ℕ) → (n == 0) ≡ true → n ≡ 0
      none zero q = refl
      none (suc n) q = absurd (apart (suc n) q (omega arith))
        where
          apart : (m : ℕ) → (m == 0) ≡ true → 0 < m → ⊥
          apart m q lt = grind (arith)

      go : (b : Bool) → (spoken == 0) ≡ b → 0 < spoken
      go false q = some spoken q
      go true q = absurd (batch_is_filled old.actors (waiting_in old.mail) place runs t.may (none_taken (λ a. waiting_in old.mail a place) runs (λ a. was.silent (none spoken q) a place)))

  -- the same of the driver
  pub has_stepped : (spoken : ℕ) (stopped was is : Bool) → HasStepped rules place runs stamp
      (record { actors = old.actors; waiting = waiting_in old.mail; spoken = spoken; has_stopped = stopped; is_broken = was })
      (record { actors = new.actors; waiting = waiting_in new.mail; spoken = spoken; has_stopped = stopped; is_broken = is })
  has_stepped spoken stopped was is =
      let one : Some t.taken.before ≡ Some t.may.actor = sym t.taken.at ∙ t.may.at in
      let before : t.taken.before ≡ t.may.actor = cc in
      record {
        may = t.may;
        after = t.taken.after;
        actors = t.taken.actors;
        played = subst (λ (a : ActorState S). HasPlayed rules (batch_by (waiting_in old.mail) place runs) a t.taken.after) before t.taken.played;
        due = t.due;
        spoken = refl;
        stopped = refl;
      }
