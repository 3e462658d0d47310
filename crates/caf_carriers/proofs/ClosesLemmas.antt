-- Where a closer's record is complete, every other place has quit, and each request of place 0 was resolved once.
use Rattle.std.proofs.Common.{◌≡◌, ◌≢◌, ℕ, zero, suc, ◌+◌, ◌<◌, ◌∙◌, sym, ap, subst, ◌==◌, ◌&&◌, ◌||◌, Bool, true, false, List, [], ◌∷◌, ◌++◌, count_by, Option, Some, None, is_some, refl, arith, inr}
use Rattle.std.specs.Prelude.{option_map}
use Rattle.std.specs.List.{AllByRecursion, list_any}
use Rattle.caf_types.specs.declared.reason.Reason.{Reason}
use Rattle.caf_message.specs.declared.envelope.Taken.{Taken}
use Rattle.caf_message.specs.Envelope.{is_system, is_response, is_content, is_request}
use Rattle.caf_message.specs.Outside.{holds_stop}
use Rattle.caf_response.specs.declared.pending.Waiting.{Waiting}
use Rattle.caf_response.specs.Pending.{has_number, top_number, waiting_count}
use Rattle.caf_response.specs.Holds.{is_of}
use Rattle.caf_actor.specs.declared.snapshot.Snapshot.{Snapshot}
use Rattle.caf_actor.specs.declared.journal.TakenBatch.{TakenBatch}
use Rattle.caf_actor.specs.Rules.{Rules, AnswersRequests, StaysValid, StaysSameActor, SendsToPeers}
use Rattle.caf_actor.specs.Snapshot.{so_far}
use Rattle.caf_actor.specs.Eligibility.{is_awaited, is_turn, is_eligible, is_eligible_when}
use Rattle.caf_actor.specs.Quitting.{all_cached}
use Rattle.caf_actor.specs.Record.{machine_of, ends, cut_in, holds_notice, sum_below, IsStill, IsCloser}
use Rattle.caf_actor.specs.Run.{State, Turn, Step, Take, step, run, IsRun, opening_state}
use Rattle.caf_actor.specs.Merge.{batches_in, steps_of}
use Rattle.caf_actor.specs.Resolutions.{times_resolved, times_answered}
use Rattle.caf_actor.specs.Carriers.{is_mid, carries, carriers_at, step_resolves, AreFresh, end_of, resolutions_of, ClosesAll}
use Rattle.caf_actor.proofs.ResolutionLemmas.{carriers_rest}
use Rattle.caf_record.proofs.ListLemmas.{and_left, and_right}
use Rattle.caf_record.proofs.StampedLemmas.{has_stamps}
use Rattle.caf_record.proofs.MergeLemmas.{merge_runs}
use Rattle.caf_carriers.proofs.CountLemmas.{one, count-cons, count-append, sum_none, self_same, same_number}
use Rattle.caf_carriers.proofs.PlaceLemmas.{IsFor, Going, Left}
use Rattle.caf_carriers.proofs.StepLemmas as steps
use Rattle.caf_carriers.proofs.StepLemmas.{kept_step, order_opening, counted_opening}
use Rattle.caf_carriers.proofs.CloserLemmas.{Closing, OutcomeAt, closing_step, closing_opening}
use Rattle.caf_carriers.proofs.DoomLemmas.{takes_stop, doomed_run, has_quit}
use Rattle.caf_carriers.proofs.LawLemmas.{kept_end, waits_or_is_resolved}

-- ---- Stop in the merge

some_map : (r : Option ℕ) → is_some (option_map (λ (n : ℕ). suc n) r) ≡ true → is_some r ≡ true
some_map None e = e
some_map (Some n) e = refl

any_steps : (t : Turn) (ts : List Turn) (b : Bool) → ((0 == t.place) && holds_notice t.batch) ≡ b → list_any takes_stop (steps_of (t ∷ ts)) ≡ (takes_stop (Take t) || list_any takes_stop (steps_of ts))
any_steps t ts true q = rw q refl
any_steps t ts false q = rw q refl

stop_among : (ts : List Turn) → is_some (cut_in (batches_in 0 ts)) ≡ true → list_any takes_stop (steps_of ts) ≡ true
stop_among [] e = cc
stop_among (t ∷ ts) e = any_steps t ts ((0 == t.place) && holds_notice t.batch) refl ∙ go (0 == t.place) refl (holds_stop t.batch.taken) refl (stop_among ts)
  where
    go : (b : Bool) → (0 == t.place) ≡ b → (c : Bool) → holds_stop t.batch.taken ≡ c → (is_some (cut_in (batches_in 0 ts)) ≡ true → list_any takes_stop (steps_of ts) ≡ true)
        → (takes_stop (Take t) || list_any takes_stop (steps_of ts)) ≡ true
    go true q true r later = rw (q, r) refl
    go true q false r later =
        let k : is_some (option_map (λ (n : ℕ). suc n) (cut_in (batches_in 0 ts))) ≡ true = rw (q, r) at e in
        rw (q, r) (later (some_map (cut_in (batches_in 0 ts)) k))
    go false q c r later = let k : is_some (cut_in (batches_in 0 ts)) ≡ true = rw q at e in rw q (later k)

-- ---- what is eligible

module _ {S : Type 0} (rules : Rules S) (s : Snapshot S) where
  eligible_to_quit : s.quit ≢ None → (e : Taken) → is_eligible rules s e ≡ true
  eligible_to_quit gone e = go s.quit refl
    where
      go : (q : Option Reason) → s.quit ≡ q → is_eligible rules s e ≡ true
      go None r = absurd (gone r)
      go (Some why) r = ap (λ (x : Option Reason). is_eligible_when rules s.behavior s.has_begun (is_some x) (top_number s.pending.awaited) e) r

  -- a response that is awaited, or any where none is
  eligible_response : s.quit ≡ None → s.has_begun ≡ true → (e : Taken) → is_response e ≡ true → is_awaited (top_number s.pending.awaited) e.mid.number ≡ true → is_eligible rules s e ≡ true
  eligible_response alive begun e response awaited =
      ap (λ (x : Option Reason). is_eligible_when rules s.behavior s.has_begun (is_some x) (top_number s.pending.awaited) e) alive
      ∙ ap (λ (b : Bool). is_eligible_when rules s.behavior b false (top_number s.pending.awaited) e) begun
      ∙ go (is_system e) refl
    where
      turn : is_turn rules s.behavior (top_number s.pending.awaited) e ≡ true
      turn = rw response awaited

      go : (b : Bool) → is_system e ≡ b → is_eligible_when rules s.behavior true false (top_number s.pending.awaited) e ≡ true
      go true q = rw q refl
      go false q = rw q turn

  -- so nothing is cached where nothing cached is eligible
  none_carried : (a n : ℕ) → ((e : Taken) → carries a n e ≡ true → IsFor s.place e → is_eligible rules s e ≡ true) → AllByRecursion (λ e. is_eligible rules s e ≡ false) (all_cached s.caches)
      → AllByRecursion (IsFor s.place) s.caches.urgent → AllByRecursion (IsFor s.place) s.caches.normal → s.holds ≡ [] → carriers_at a n s ≡ 0
  none_carried a n eligible idle urgent normal none =
      let sum = count-append (carries a n) s.caches.urgent s.caches.normal in
      let listed = all_none (all_cached s.caches) idle (both s.caches.urgent s.caches.normal urgent normal) in
      let held : count_by (is_of a n) s.holds ≡ 0 = ap (count_by (is_of a n)) none in
      omega arith
    where
      both : (xs ys : List Taken) → AllByRecursion (IsFor s.place) xs → AllByRecursion (IsFor s.place) ys → AllByRecursion (IsFor s.place) (xs ++ ys)
      both [] ys h k = k
      both (x ∷ xs) ys h k = (h.0, both xs ys h.1 k)

      all_none : (es : List Taken) → AllByRecursion (λ e. is_eligible rules s e ≡ false) es → AllByRecursion (IsFor s.place) es → count_by (carries a n) es ≡ 0
      all_none [] h k = refl
      all_none (e ∷ es) h k = go (carries a n e) refl (all_none es h.1 k.1)
        where
          go : (b : Bool) → carries a n e ≡ b → count_by (carries a n) es ≡ 0 → count_by (carries a n) (e ∷ es) ≡ 0
          go true q rest = let yes = eligible e q k.0 in let no : true ≡ false = sym yes ∙ h.0 in cc
          go false q rest = let all = count-cons (carries a n) e es in let here : one (carries a n e) ≡ 0 = ap one q in omega arith

-- what carries a request and isn't for place 0 as content is a response with its number
carried_response : (a n : ℕ) (e : Taken) → carries a n e ≡ true → IsFor 0 e → (is_response e ≡ true) × ((e.mid.number == n) ≡ true)
carried_response a n e q for_zero = (go (is_request e) refl (and_left (is_request e || is_response e) (is_mid a n e.mid) q), and_right (e.mid.requester == a) (e.mid.number == n) (and_right (is_request e || is_response e) (is_mid a n e.mid) q))
  where
    go : (b : Bool) → is_request e ≡ b → (b || is_response e) ≡ true → is_response e ≡ true
    go true r k = absurd (for_zero (and_left (is_content e) _ r) refl)
    go false r k = k

-- ---- the end of the run

module _ {S : Type 0} (valid : S → Type 0) (rules : Rules S) (stays : StaysValid valid rules) (same : StaysSameActor valid rules) (peers : SendsToPeers valid rules) (answers : AnswersRequests valid rules) where
  module _ (places : ℕ) (start : ℕ → Snapshot S) (begins : AreFresh valid rules places start) (closer : IsCloser rules places (λ p. (start p).behavior)) (ticks : ℕ) (is_place : 0 < places) where
    abbrev Closes : State (Snapshot S) → Type 0
    Closes s = Closing valid rules stays same peers places (λ p. (start p).behavior) closer s

    closing_run : (n : ℕ) (bs : List Step) (s : State (Snapshot S)) (c d : ℕ) → IsRun (machine_of rules) ticks s bs → steps.Kept valid rules stays same peers answers ticks 0 n places is_place s c d → Closes s → Closes (run (machine_of rules) ticks s bs)
    closing_run n [] s c d runs kept h = h
    closing_run n (b ∷ bs) s c d runs kept h =
        closing_run n bs (step (machine_of rules) ticks s b) (c + times_answered n (step_resolves rules 0 s b)) (d + times_resolved n (step_resolves rules 0 s b)) runs.1
        (kept_step valid rules stays same peers answers ticks 0 n places is_place s b c d runs.0 kept)
        (closing_step valid rules stays same peers places (λ p. (start p).behavior) closer answers n is_place ticks s b runs.0 kept.order h)

    module _ (bs : List Step) (runs : IsRun (machine_of rules) ticks (opening_state places start) bs) (stopped : list_any takes_stop bs ≡ true)
        (still : IsStill (machine_of rules) places (run (machine_of rules) ticks (opening_state places start) bs).snapshot (run (machine_of rules) ticks (opening_state places start) bs).waiting) where
      abbrev end : State (Snapshot S)
      end = run (machine_of rules) ticks (opening_state places start) bs

      opens : (n : ℕ) → steps.Kept valid rules stays same peers answers ticks 0 n places is_place (opening_state places start) 0 0
      opens n = record { order = order_opening valid rules places start begins 0 n is_place; counted = counted_opening valid rules places start begins 0 n is_place }

      closes : Closes end
      closes = closing_run 0 bs (opening_state places start) 0 0 runs (opens 0) (closing_opening valid rules stays same peers places start begins closer)

      at_end : (n : ℕ) → steps.Kept valid rules stays same peers answers ticks 0 n places is_place (end_of valid rules ticks places start bs) (0 + times_answered n (resolutions_of valid rules ticks places start bs 0)) (0 + times_resolved n (resolutions_of valid rules ticks places start bs 0))
      at_end n = kept_end valid rules stays same peers answers ticks places start bs begins runs 0 n is_place

      places_are : end.places ≡ places
      places_are = (at_end 0).order.places_are

      still_here : IsStill (machine_of rules) end.places end.snapshot end.waiting
      still_here = subst (λ (k : ℕ). IsStill (machine_of rules) k end.snapshot end.waiting) (sym places_are) still

      pub others_quit : (q : ℕ) → 0 < q → q < places → (end.snapshot q).quit ≢ None
      others_quit q above below =
          has_quit valid rules stays same peers answers places (λ p. (start p).behavior) closer ticks 0 is_place q above below end places_are still_here
          (doomed_run valid rules stays same peers answers places (λ p. (start p).behavior) closer ticks 0 is_place q above below bs (opening_state places start) 0 0 runs (opens 0)
          (closing_opening valid rules stays same peers places start begins closer) (inr stopped))

      idle : (p : ℕ) → p < places → AllByRecursion (λ e. is_eligible rules (end.snapshot p) e ≡ false) (all_cached (end.snapshot p).caches)
      idle p less = (carriers_rest rules valid end still_here).1 p (subst (λ (k : ℕ). p < k) (sym places_are) less)

      -- another place has none
      none_at_other : (n q : ℕ) → 0 < q → q < places → carriers_at 0 n (end.snapshot q) ≡ 0
      none_at_other n q above below = go (closes.each q below)
        where
          go : OutcomeAt valid rules stays same peers places (λ p. (start p).behavior) closer q (so_far (end.snapshot q) []) → carriers_at 0 n (end.snapshot q) ≡ 0
          go (Going h) = absurd (others_quit q above below h.quit_is)
          go (Left may why h) =
              none_carried rules (end.snapshot q) 0 n (λ e c f. eligible_to_quit rules (end.snapshot q) (others_quit q above below) e)
              (idle q below)
              (subst (λ (x : ℕ). AllByRecursion (IsFor x) (end.snapshot q).caches.urgent) (sym h.at) h.listed.0)
              (subst (λ (x : ℕ). AllByRecursion (IsFor x) (end.snapshot q).caches.normal) (sym h.at) h.listed.1)
              (h.held tt)

      -- and place 0 has none of a request that is awaited, or of any where none is awaited
      none_at_zero : (n : ℕ) → is_awaited (top_number (end.snapshot 0).pending.awaited) n ≡ true → carriers_at 0 n (end.snapshot 0) ≡ 0
      none_at_zero n awaited = go (closes.each 0 is_place)
        where
          go : OutcomeAt valid rules stays same peers places (λ p. (start p).behavior) closer 0 (so_far (end.snapshot 0) []) → carriers_at 0 n (end.snapshot 0) ≡ 0
          go (Left may why h) = absurd (may refl)
          go (Going h) =
              none_carried rules (end.snapshot 0) 0 n
              (λ e c f.
              let both = carried_response 0 n e c (subst (λ (x : ℕ). IsFor x e) h.at f) in
              eligible_response rules (end.snapshot 0) h.quit_is (h.begun_is refl) e both.0
              (subst (λ (k : ℕ). is_awaited (top_number (end.snapshot 0).pending.awaited) k ≡ true) (sym (same_number e.mid.number n both.1)) awaited))
              (idle 0 is_place)
              (subst (λ (x : ℕ). AllByRecursion (IsFor x) (end.snapshot 0).caches.urgent) (sym h.at) h.listed.0)
              (subst (λ (x : ℕ). AllByRecursion (IsFor x) (end.snapshot 0).caches.normal) (sym h.at) h.listed.1)
              (h.held refl)

      none_waits : (n : ℕ) → is_awaited (top_number (end.snapshot 0).pending.awaited) n ≡ true → waiting_count (end.snapshot 0).pending n ≡ 0
      none_waits n awaited =
          let cover = (at_end n).counted.cover in
          let all = (carriers_rest rules valid end still_here).0 0 n in
          let none : sum_below end.places (λ p. carriers_at 0 n (end.snapshot p)) ≡ 0 =
          sum_none end.places (λ p. carriers_at 0 n (end.snapshot p)) (λ p less. each p (subst (λ (k : ℕ). p < k) places_are less)) in
          omega arith
        where
          each : (p : ℕ) → p < places → carriers_at 0 n (end.snapshot p) ≡ 0
          each zero less = none_at_zero n awaited
          each (suc p) less = none_at_other n (suc p) (omega arith) less

      pub nothing_waits : (n : ℕ) → waiting_count (end.snapshot 0).pending n ≡ 0
      nothing_waits n = go (end.snapshot 0).pending.awaited refl
        where
          go : (ws : List Waiting) → (end.snapshot 0).pending.awaited ≡ ws → waiting_count (end.snapshot 0).pending n ≡ 0
          go [] e = none_waits n (ap (λ us. is_awaited (top_number us) n) e)
          go (w ∷ ws) e =
              let none : waiting_count (end.snapshot 0).pending w.number ≡ 0 = none_waits w.number (ap (λ us. is_awaited (top_number us) w.number) e ∙ self_same w.number) in
              let count : count_by (has_number w.number) (end.snapshot 0).pending.awaited ≡ one (w.number == w.number) + count_by (has_number w.number) ws = ap (count_by (has_number w.number)) e ∙ count-cons (has_number w.number) w ws in
              let here : one (w.number == w.number) ≡ 1 = ap one (self_same w.number) in
              absurd (omega arith)

      pub zero_alive : (end.snapshot 0).quit ≡ None
      zero_alive = go (closes.each 0 is_place)
        where
          go : OutcomeAt valid rules stays same peers places (λ p. (start p).behavior) closer 0 (so_far (end.snapshot 0) []) → (end.snapshot 0).quit ≡ None
          go (Going h) = h.quit_is
          go (Left may why h) = absurd (may refl)

  -- ---- records

  pub closes_all : ClosesAll valid rules
  closes_all ticks k ts begins closer complete merge = (quits, resolved)
    where
      some_cut : is_some (cut_in (k.journal 0)) ≡ true
      some_cut = sym (ap (λ (r : Option ℕ). is_some r) complete.legal.cut) ∙ complete.cut

      stopped : list_any takes_stop (steps_of ts) ≡ true
      stopped = stop_among ts (ap (λ (bs : List TakenBatch). is_some (cut_in bs)) (merge.parts 0) ∙ some_cut)

      is_place : 0 < k.places
      is_place = go k.places refl
        where
          go : (m : ℕ) → k.places ≡ m → 0 < m
          go zero e =
              let none : k.journal 0 ≡ [] = complete.legal.inside 0 (omega arith) in
              let no : false ≡ true = sym (ap (λ (bs : List TakenBatch). is_some (cut_in bs)) none) ∙ some_cut in cc
          go (suc m) e = omega arith

      merged : IsRun (machine_of rules) ticks (opening_state k.places k.start) (steps_of ts)
      merged = (merge_runs (machine_of rules) (has_stamps rules) ticks k complete.legal ts merge).0

      snapshot_is : (p : ℕ) → (run (machine_of rules) ticks (opening_state k.places k.start) (steps_of ts)).snapshot p ≡ ends (machine_of rules) k p
      snapshot_is p = (merge_runs (machine_of rules) (has_stamps rules) ticks k complete.legal ts merge).1.0.snapshots p

      still : IsStill (machine_of rules) k.places (run (machine_of rules) ticks (opening_state k.places k.start) (steps_of ts)).snapshot (run (machine_of rules) ticks (opening_state k.places k.start) (steps_of ts)).waiting
      still = record {
        taken = λ a b. (merge_runs (machine_of rules) (has_stamps rules) ticks k complete.legal ts merge).1.0.waiting a b ∙ complete.rest.taken a b;
        idle = λ p less. ap (λ (u : Snapshot S). (machine_of rules).is_idle u) (snapshot_is p) ∙ complete.rest.idle p less;
      }

      quits : (p : ℕ) → 0 < p → p < k.places → (ends (machine_of rules) k p).quit ≢ None
      quits p above below = subst (λ (u : Snapshot S). u.quit ≢ None) (snapshot_is p) (others_quit k.places k.start begins closer ticks is_place (steps_of ts) merged stopped still p above below)

      resolved : (n : ℕ) → 0 < n → n < (ends (machine_of rules) k 0).pending.next → times_resolved n (resolutions_of valid rules ticks k.places k.start (steps_of ts) 0) ≡ 1
      resolved n positive issued =
          let none = nothing_waits k.places k.start begins closer ticks is_place (steps_of ts) merged stopped still n in
          let alive = zero_alive k.places k.start begins closer ticks is_place (steps_of ts) merged stopped still in
          let issued_here : n < ((run (machine_of rules) ticks (opening_state k.places k.start) (steps_of ts)).snapshot 0).pending.next = subst (λ (u : Snapshot S). n < u.pending.next) (sym (snapshot_is 0)) issued in
          let all = waits_or_is_resolved valid rules stays same peers answers ticks k.places k.start (steps_of ts) begins merged 0 n is_place positive issued_here alive in
          omega arith
