-- What a driver does is a run of the machine: how it begins, and a batch.
use Rattle.std.proofs.Common.{◌≡◌, ℕ, ◌-◌, ◌<◌, ◌==◌, ◌&&◌, if◌then◌else◌, Bool, true, false, List, [], ◌∷◌, ◌++◌, length, Some, refl, ap, sym, ◌∙◌, subst, arith, inl, inr}
use Rattle.std.specs.Prelude.{slice_get}
use Rattle.std.proofs.lemmas.Bool.{cases_lt}
use Rattle.std.proofs.lemmas.List.{append-nil}
use Rattle.caf_message.specs.Envelope.{outside, start_envelope}
use Rattle.caf_actor.specs.declared.snapshot.Snapshot.{Snapshot}
use Rattle.caf_actor.specs.Rules.{Rules}
use Rattle.caf_actor.specs.Actor.{ActorState}
use Rattle.caf_actor.specs.Snapshot.{cached}
use Rattle.caf_actor.specs.Record.{Machine, machine_of, joined, when}
use Rattle.caf_actor.specs.Run.{Step, opening_state, run, IsRun, batches_of}
use Rattle.caf_record.specs.RunRecord.{journal_at}
use Rattle.caf_driver.specs.Driver.{DriverState, journals_of, snapshot_in, ticks_in, unsaid, StandsAs, HasCounted, IsDriven}
use Rattle.caf_driver.specs.Opening.{opening, StartsAt}
use Rattle.caf_driver.proofs.ListLemmas.{test_of, get_some, field_at, field_past}

-- ---- small facts

pub and_true : (b : Bool) → (b && true) ≡ b
and_true true = refl
and_true false = refl

and_false : (b : Bool) → (b && false) ≡ false
and_false true = refl
and_false false = refl

module _ {S : Type 0} where
  -- once Start was played, all that waits was posted or played
  pub nothing_unsaid : (d : DriverState S) → 0 < d.spoken → (a b : ℕ) → unsaid d a b ≡ []
  nothing_unsaid d some a b =
      let said : (d.spoken == 0) ≡ false = test_of d.spoken 0 (λ e. omega arith) in
      ap (λ c. when (((outside == a) && (0 == b)) && c) (start_envelope ∷ [])) said ∙ ap (λ c. when c (start_envelope ∷ [])) (and_false ((outside == a) && (0 == b)))

  pub ticks_on : (d : DriverState S) → d.has_stopped ≡ false → ticks_in d ≡ d.spoken - 1
  ticks_on d on = ap (λ c. if c then d.spoken - 2 else d.spoken - 1) on

  pub ticks_stopped : (d : DriverState S) → d.has_stopped ≡ true → ticks_in d ≡ d.spoken - 2
  ticks_stopped d stopped = ap (λ c. if c then d.spoken - 2 else d.spoken - 1) stopped

module _ {S : Type 0} (rules : Rules S) (start : ℕ → Snapshot S) where
  abbrev m : Machine (Snapshot S)
  m = machine_of rules

  -- with any names for the number of ticks and that of places
  pub driven_by : (ticks n : ℕ) (e : DriverState S) (steps : List Step) → ticks ≡ ticks_in e → n ≡ length (journals_of e) → IsRun m ticks (opening_state n start) steps
      → StandsAs start e (run m ticks (opening_state n start) steps) → ((p : ℕ) → batches_of p steps ≡ journal_at (journals_of e) p)
      → ((p : ℕ) (a : ActorState S) → slice_get e.actors p ≡ Some a → HasCounted (start p) m a) → IsDriven rules start e
  driven_by ticks n e steps same_ticks same_count possible stands journals counts = record {
    steps = steps;
    possible = subst (λ x. IsRun m x (opening_state (length (journals_of e)) start) steps) same_ticks (subst (λ x. IsRun m ticks (opening_state x start) steps) same_count possible);
    stands = subst (λ x. StandsAs start e (run m x (opening_state (length (journals_of e)) start) steps)) same_ticks (subst (λ x. StandsAs start e (run m ticks (opening_state x start) steps)) same_count stands);
    journals = journals;
    counted = counts;
  }

  -- ---- at first

  module _ (actors : List (ActorState S)) (untried : (p : ℕ) (a : ActorState S) → slice_get actors p ≡ Some a → (a.journal ≡ []) × (a.handled ≡ 0)) (starts : StartsAt start actors) where
    opening_at : (p : ℕ) → start p ≡ snapshot_in start (opening actors) p
    opening_at p = elim (cases_lt p (length actors)) [
      | inl lt ↦ (let found = get_some actors p lt in sym (field_at (λ (a : ActorState S). a.snapshot) actors p found.0 (start p) found.1 ∙ starts p found.0 found.1))
      | inr ge ↦ sym (field_past (λ (a : ActorState S). a.snapshot) actors p (start p) ge)
    ]

    opening_journals : (p : ℕ) → [] ≡ journal_at (journals_of (opening actors)) p
    opening_journals p = elim (cases_lt p (length actors)) [
      | inl lt ↦ (let found = get_some actors p lt in sym (field_at (λ (a : ActorState S). a.journal) actors p found.0 [] found.1 ∙ (untried p found.0 found.1).0))
      | inr ge ↦ sym (field_past (λ (a : ActorState S). a.journal) actors p [] ge)
    ]

    opening_waiting : (a b : ℕ) → when ((outside == a) && (0 == b)) (start_envelope ∷ []) ≡ unsaid (opening actors) a b ++ []
    opening_waiting a b = sym (append-nil (unsaid (opening actors) a b) ∙ ap (λ c. when c (start_envelope ∷ [])) (and_true ((outside == a) && (0 == b))))

    opening_counted : (p : ℕ) (a : ActorState S) → slice_get actors p ≡ Some a → HasCounted (start p) m a
    opening_counted p a found =
        let none = untried p a found in
        let here : cached (start p) ≡ cached a.snapshot = ap (λ (s : Snapshot S). cached s) (sym (starts p a found)) in
        let nothing : length (joined a.journal) ≡ 0 = ap (λ bs. length (joined bs)) none.0 in
        let count : a.handled ≡ 0 = none.1 in
        record { left = 0; all = omega arith; counted = count }

    pub opening_driven : IsDriven rules start (opening actors)
    opening_driven = record {
      steps = [];
      possible = tt;
      stands = record { snapshots = opening_at; waiting = opening_waiting; spoken = refl };
      journals = opening_journals;
      counted = opening_counted;
    }
