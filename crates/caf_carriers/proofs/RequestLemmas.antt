-- What the laws of runs say of records.
use Rattle.std.proofs.Common.{◌≡◌, ℕ, ◌<◌, ◌∙◌, sym, ap, subst, false, List, [], ◌∷◌, ◌++◌, None, arith}
use Rattle.std.specs.List.{AllByRecursion}
use Rattle.caf_response.specs.Pending.{waiting_count}
use Rattle.caf_actor.specs.declared.snapshot.Snapshot.{Snapshot}
use Rattle.caf_actor.specs.Rules.{Rules, AnswersRequests, StaysValid, StaysSameActor, SendsToPeers}
use Rattle.caf_actor.specs.Eligibility.{is_eligible}
use Rattle.caf_actor.specs.Quitting.{all_cached}
use Rattle.caf_actor.specs.Record.{Machine, Kept, machine_of, ends, IsLegal, sum_below, IsStill}
use Rattle.caf_actor.specs.Run.{State, Turn, Step, step, run, IsRun, opening_state}
use Rattle.caf_actor.specs.Merge.{IsMerge, steps_of}
use Rattle.caf_actor.specs.Carriers.{carriers_at, AreFresh}
use Rattle.caf_actor.proofs.ResolutionLemmas.{ends_as_declared, carriers_rest}
use Rattle.caf_record.proofs.StampedLemmas.{has_stamps}
use Rattle.caf_record.proofs.MergeLemmas.{merge_runs}
use Rattle.caf_carriers.specs.Requests.{HasCarriedRequests, HasStandingRequests, LegalIsCarried, RestingStands}
use Rattle.caf_carriers.proofs.CountLemmas.{sum_same}
use Rattle.caf_carriers.proofs.LawLemmas.{kept_end, one_carrier, resolves_once, waits_or_is_resolved, stands_in_one_place}

front_runs : {S : Type 0} (m : Machine S) (ticks : ℕ) (s : State S) (front rest : List Step) → IsRun m ticks s (front ++ rest) → IsRun m ticks s front
front_runs m ticks s [] rest h = tt
front_runs m ticks s (b ∷ front) rest h = (h.0, front_runs m ticks (step m ticks s b) front rest h.1)

module _ {S : Type 0} (valid : S → Type 0) (rules : Rules S) (stays : StaysValid valid rules) (same : StaysSameActor valid rules) (peers : SendsToPeers valid rules) (answers : AnswersRequests valid rules) where
  module _ (ticks : ℕ) (k : Kept (Snapshot S)) (ts : List Turn) (begins : AreFresh valid rules k.places k.start) (legal : IsLegal (machine_of rules) ticks k) (merge : IsMerge k ts) where
    abbrev last : State (Snapshot S)
    last = run (machine_of rules) ticks (opening_state k.places k.start) (steps_of ts)

    runs : IsRun (machine_of rules) ticks (opening_state k.places k.start) (steps_of ts)
    runs = (merge_runs (machine_of rules) (has_stamps rules) ticks k legal ts merge).0

    snapshot_is : (p : ℕ) → last.snapshot p ≡ ends (machine_of rules) k p
    snapshot_is p = (merge_runs (machine_of rules) (has_stamps rules) ticks k legal ts merge).1.0.snapshots p

    issued_at_end : (a n : ℕ) → n < (ends (machine_of rules) k a).pending.next → n < (last.snapshot a).pending.next
    issued_at_end a n h = subst (λ (u : Snapshot S). n < u.pending.next) (sym (snapshot_is a)) h

    alive_at_end : (a : ℕ) → (ends (machine_of rules) k a).quit ≡ None → (last.snapshot a).quit ≡ None
    alive_at_end a h = ap (λ (u : Snapshot S). u.quit) (snapshot_is a) ∙ h

    pub carried_requests : HasCarriedRequests valid rules ticks k ts
    carried_requests = record {
      carried = λ front rest e a n is_place positive.
          one_carrier valid rules stays same peers answers ticks k.places k.start front begins
          (front_runs (machine_of rules) ticks (opening_state k.places k.start) front rest (subst (λ bs. IsRun (machine_of rules) ticks (opening_state k.places k.start) bs) e runs)) a n is_place positive;
      once = λ a n is_place. resolves_once valid rules stays same peers answers ticks k.places k.start (steps_of ts) begins runs a n is_place;
      as_declared = λ a. ends_as_declared rules valid ticks k.places k.start (steps_of ts) a;
      settled = λ a n is_place positive issued alive.
          let all = waits_or_is_resolved valid rules stays same peers answers ticks k.places k.start (steps_of ts) begins runs a n is_place positive (issued_at_end a n issued) (alive_at_end a alive) in
          let waits_same : waiting_count (last.snapshot a).pending n ≡ waiting_count (ends (machine_of rules) k a).pending n = ap (λ (u : Snapshot S). waiting_count u.pending n) (snapshot_is a) in
          omega arith;
    }

    module _ (still : IsStill (machine_of rules) k.places last.snapshot last.waiting) where
      sum_is : (a n : ℕ) → sum_below k.places (λ p. carriers_at a n (last.snapshot p)) ≡ sum_below k.places (λ p. carriers_at a n (ends (machine_of rules) k p))
      sum_is a n =
          sum_same k.places (λ p. carriers_at a n (last.snapshot p)) (λ p. carriers_at a n (ends (machine_of rules) k p))
          (λ p less. ap (λ (u : Snapshot S). carriers_at a n u) (snapshot_is p))

      none_eligible : (p : ℕ) → p < k.places → AllByRecursion (λ e. is_eligible rules (ends (machine_of rules) k p) e ≡ false) (all_cached (ends (machine_of rules) k p).caches)
      none_eligible p less =
          let places_are : last.places ≡ k.places = (kept_end valid rules stays same peers answers ticks k.places k.start (steps_of ts) begins runs p 0 less).order.places_are in
          let still_here : IsStill (machine_of rules) last.places last.snapshot last.waiting =
          subst (λ (m : ℕ). IsStill (machine_of rules) m last.snapshot last.waiting) (sym places_are) still in
          subst (λ (u : Snapshot S). AllByRecursion (λ e. is_eligible rules u e ≡ false) (all_cached u.caches)) (snapshot_is p)
          ((carriers_rest rules valid last still_here).1 p (subst (λ (m : ℕ). p < m) (sym places_are) less))

      pub standing_requests : HasStandingRequests valid rules ticks k ts
      standing_requests = record {
        one = λ a n is_place positive issued alive unresolved.
            sym (sum_is a n) ∙ (stands_in_one_place valid rules stays same peers answers ticks k.places k.start (steps_of ts) begins runs still a n is_place positive (issued_at_end a n issued) (alive_at_end a alive) unresolved).0;
        idle = none_eligible;
      }

  pub legal_is_carried : LegalIsCarried valid rules
  legal_is_carried ticks k ts begins legal merge = carried_requests ticks k ts begins legal merge

  pub resting_stands : RestingStands valid rules
  resting_stands ticks k ts begins legal rest merge = standing_requests ticks k ts begins legal merge (record {
    taken = λ a b. (merge_runs (machine_of rules) (has_stamps rules) ticks k legal ts merge).1.0.waiting a b ∙ rest.taken a b;
    idle = λ p less. ap (λ (u : Snapshot S). (machine_of rules).is_idle u) ((merge_runs (machine_of rules) (has_stamps rules) ticks k legal ts merge).1.0.snapshots p) ∙ rest.idle p less;
  })
