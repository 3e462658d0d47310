-- From an opening state on, each request is counted.
use Rattle.std.proofs.Common.{◌≡◌, ℕ, zero, suc, ◌+◌, ◌≤◌, ◌<◌, ◌∙◌, sym, ap, subst, ◌==◌, ◌&&◌, Bool, true, false, List, [], ◌∷◌, ◌++◌, length, count_by, refl, arith, ◌⊎◌, inl, inr}
use Rattle.std.specs.Prelude.{Contains, slice_index_or}
use Rattle.std.specs.List.{AllByRecursion}
use Rattle.caf_message.specs.Envelope.{outside, start_envelope}
use Rattle.caf_mailbox.proofs.NextLemmas.{all_append}
use Rattle.caf_response.specs.Pending.{waiting_count}
use Rattle.caf_actor.specs.declared.snapshot.Snapshot.{Snapshot}
use Rattle.caf_actor.specs.Leads.{LeadsWithin, StaysWithin}
use Rattle.caf_actor.specs.Rules.{Rules, AnswersRequests, StaysValid, StaysSameActor, SendsToPeers}
use Rattle.caf_actor.specs.Snapshot.{fresh}
use Rattle.caf_actor.specs.Record.{Machine, machine_of, when, sum_below}
use Rattle.caf_actor.specs.Run.{State, Step, Take, Speak, send_notice, next_notice, step, run, IsPossible, IsRun, opening_state}
use Rattle.caf_actor.specs.Resolutions.{Resolution, is_answer, has_request, times_resolved, times_answered, given_between}
use Rattle.caf_actor.specs.Carriers.{carries, carriers_at, carriers_to, carriers, step_resolves, run_resolves, AreFresh}
use Rattle.caf_record.proofs.ListLemmas.{and_left}
use Rattle.caf_carriers.specs.Counted.{IsCounted}
use Rattle.caf_carriers.specs.Home.{IsHome}
use Rattle.caf_carriers.proofs.CountLemmas.{count-cons, count-append, none_given, sum_same, sum_none, same_number}
use Rattle.caf_carriers.proofs.TotalLemmas.{IsSender}
use Rattle.caf_carriers.proofs.RunLemmas.{InOrder, no_response, leads_nowhere, order_after, counted_after}

-- ---- the outside sends a notice

-- it carries nothing
notice_weight : {S : Type 0} (a n : ℕ) (m : Machine S) (ticks : ℕ) (s : State S) (c : Bool) → count_by (carries a n) (when c (next_notice m ticks s ∷ [])) ≡ 0
notice_weight a n m ticks s true = count-cons (carries a n) (next_notice m ticks s) []
notice_weight a n m ticks s false = refl

pub same_carriers : {S : Type 0} (a n : ℕ) (m : Machine (Snapshot S)) (ticks : ℕ) (s : State (Snapshot S)) → carriers a n (send_notice m ticks s) ≡ carriers a n s
same_carriers a n m ticks s =
    let waiting : sum_below s.places (carriers_to a n (send_notice m ticks s)) ≡ sum_below s.places (carriers_to a n s) = sum_same s.places (carriers_to a n (send_notice m ticks s)) (carriers_to a n s) (λ b less. row b) in
    omega arith
  where
    pair : (x b : ℕ) → count_by (carries a n) ((send_notice m ticks s).waiting x b) ≡ count_by (carries a n) (s.waiting x b)
    pair x b =
        let both = count-append (carries a n) (s.waiting x b) (when ((outside == x) && (0 == b)) (next_notice m ticks s ∷ [])) in
        let none = notice_weight a n m ticks s ((outside == x) && (0 == b)) in
        omega arith

    row : (b : ℕ) → carriers_to a n (send_notice m ticks s) b ≡ carriers_to a n s b
    row b =
        let inside = sum_same s.places (λ x. count_by (carries a n) ((send_notice m ticks s).waiting x b)) (λ x. count_by (carries a n) (s.waiting x b)) (λ x less. pair x b) in
        let last = pair outside b in
        omega arith

module _ {S : Type 0} (valid : S → Type 0) (rules : Rules S) (ticks a n places : ℕ) where
  order_spoken : (s : State (Snapshot S)) → InOrder valid rules places n s → InOrder valid rules places n (send_notice (machine_of rules) ticks s)
  order_spoken s h = record {
    places_are = h.places_are;
    few = h.few;
    at = h.at;
    occurs = h.occurs;
    own = h.own;
    within = h.within;
    home = h.home;
    ended = h.ended;
    due = h.due;
    waiting_home = λ x b. all_append (IsHome b) (s.waiting x b) (when ((outside == x) && (0 == b)) (next_notice (machine_of rules) ticks s ∷ [])) (h.waiting_home x b) (home b ((outside == x) && (0 == b)));
    waiting_within = λ x b.
        all_append (LeadsWithin (λ q. q < places)) (s.waiting x b) (when ((outside == x) && (0 == b)) (next_notice (machine_of rules) ticks s ∷ [])) (h.waiting_within x b) (within ((outside == x) && (0 == b)));
    senders = λ x b. sender x b ((outside == x) && (0 == b)) refl (h.senders x b);
  }
    where
      home : (b : ℕ) (c : Bool) → AllByRecursion (IsHome b) (when c (next_notice (machine_of rules) ticks s ∷ []))
      home b true = (no_response b ticks s.spoken (next_notice (machine_of rules) ticks s).stamp, tt)
      home b false = tt

      within : (c : Bool) → AllByRecursion (LeadsWithin (λ q. q < places)) (when c (next_notice (machine_of rules) ticks s ∷ []))
      within true = (leads_nowhere (λ q. q < places) ticks s.spoken (next_notice (machine_of rules) ticks s).stamp, tt)
      within false = tt

      sender : (x b : ℕ) (c : Bool) → ((outside == x) && (0 == b)) ≡ c → IsSender places x ⊎ (s.waiting x b ≡ []) → IsSender places x ⊎ ((send_notice (machine_of rules) ticks s).waiting x b ≡ [])
      sender x b c q (inl is) = inl is
      sender x b true q (inr none) = inl (inr (same_number outside x (and_left (outside == x) (0 == b) q)))
      sender x b false q (inr none) = inr (rw (q, none) refl)

  counted_spoken : (s : State (Snapshot S)) (c d : ℕ) → IsCounted a n s c d → IsCounted a n (send_notice (machine_of rules) ticks s) (c + 0) (d + 0)
  counted_spoken s c d h =
      let same = same_carriers a n (machine_of rules) ticks s in
      let most = h.most in
      let cover = h.cover in
      let once = h.once in
      record { low = h.low; most = omega arith; cover = omega arith; once = omega arith; exact = λ q. let is = h.exact q in omega arith }

-- ---- runs

module _ {S : Type 0} (valid : S → Type 0) (rules : Rules S) (stays : StaysValid valid rules) (same : StaysSameActor valid rules) (peers : SendsToPeers valid rules) (answers : AnswersRequests valid rules)
    (ticks a n places : ℕ) (is_place : a < places) where
  pub record Kept (s : State (Snapshot S)) (c d : ℕ) : Type 0 where
    pub order : InOrder valid rules places n s
    pub counted : IsCounted a n s c d

  pub kept_step : (s : State (Snapshot S)) (b : Step) (c d : ℕ) → IsPossible (machine_of rules) ticks s b → Kept s c d
      → Kept (step (machine_of rules) ticks s b) (c + times_answered n (step_resolves rules a s b)) (d + times_resolved n (step_resolves rules a s b))
  kept_step s (Take t) c d may h = record {
    order = order_after valid rules stays same peers answers a n places is_place s t may h.order h.counted.low h.counted.cover;
    counted = counted_after valid rules stays same peers answers a n places is_place s t may h.order c d h.counted;
  }
  kept_step s Speak c d may h = record { order = order_spoken valid rules ticks a n places s h.order; counted = counted_spoken valid rules ticks a n places s c d h.counted }

  pub kept_run : (steps : List Step) (s : State (Snapshot S)) (c d : ℕ) → IsRun (machine_of rules) ticks s steps → Kept s c d
      → Kept (run (machine_of rules) ticks s steps) (c + times_answered n (run_resolves rules ticks a s steps)) (d + times_resolved n (run_resolves rules ticks a s steps))
  kept_run [] s c d runs h = as_many s c (c + 0) d (d + 0) (omega arith) (omega arith) h
    where
      as_many : (s : State (Snapshot S)) (c c' d d' : ℕ) → c ≡ c' → d ≡ d' → Kept s c d → Kept s c' d'
      as_many s c c' d d' e f h = subst (λ (x : ℕ). Kept s x d') e (subst (λ (x : ℕ). Kept s c x) f h)
  kept_run (b ∷ steps) s c d runs h =
      let now : State (Snapshot S) = step (machine_of rules) ticks s b in
      let rs : List Resolution = step_resolves rules a s b in
      let more : List Resolution = run_resolves rules ticks a now steps in
      let first = kept_step s b c d runs.0 h in
      let all = kept_run steps now (c + times_answered n rs) (d + times_resolved n rs) runs.1 first in
      let sum_c : times_answered n (rs ++ more) ≡ times_answered n rs + times_answered n more = count-append (λ (r : Resolution). is_answer r.cause && has_request n r) rs more in
      let sum_d : times_resolved n (rs ++ more) ≡ times_resolved n rs + times_resolved n more = count-append (has_request n) rs more in
      let c_is : c + times_answered n rs + times_answered n more ≡ c + times_answered n (rs ++ more) = omega arith in
      let d_is : d + times_resolved n rs + times_resolved n more ≡ d + times_resolved n (rs ++ more) = omega arith in
      subst (λ (x : ℕ). Kept (run (machine_of rules) ticks now steps) x (d + times_resolved n (rs ++ more))) c_is
      (subst (λ (x : ℕ). Kept (run (machine_of rules) ticks now steps) (c + times_answered n rs + times_answered n more) x) d_is all)

-- ---- opening states

-- what holds of each item holds of one that is among them
pub all_named : {A : Type 0} (P : A → Type 0) (xs : List A) → AllByRecursion P xs → (x : A) → Contains xs x → P x
all_named {A} P xs all x named = go xs named.0 all named.1 named.2
  where
    go : (ys : List A) (k : ℕ) → AllByRecursion P ys → k < length ys → slice_index_or ys k x ≡ x → P x
    go [] k h less e = absurd (omega arith)
    go (y ∷ ys) zero h less e = subst P e h.0
    go (y ∷ ys) (suc k) h less e = go ys k h.1 (omega arith) e

module _ {S : Type 0} (valid : S → Type 0) (rules : Rules S) (places : ℕ) (start : ℕ → Snapshot S) (begins : AreFresh valid rules places start) (a n : ℕ) (is_place : a < places) where
  abbrev new_at : ℕ → Snapshot S
  new_at p = fresh rules (start p).has_begun p (start p).behavior (start p).stamp

  is_new : (p : ℕ) → p < places → start p ≡ new_at p
  is_new p less = begins.fresh p less

  within_at : (p : ℕ) → p < places → StaysWithin (λ q. q < places) rules (start p)
  within_at p less =
      let own = begins.place p less in
      let here : rules.place (start p).behavior < places = omega arith in
      let it : StaysWithin (λ q. q < places) rules (new_at p) = record {
        place = less;
        targets = λ q is. all_named (λ k. k < places) (rules.place (start p).behavior ∷ (rules.peers (start p).behavior ++ rules.reserve (start p).behavior)) (here, begins.targets p less) q is;
        urgent = tt;
        normal = tt;
        holds = tt;
        links = tt;
        monitors = tt;
        delays = tt;
      } in
      subst (λ (u : Snapshot S). StaysWithin (λ q. q < places) rules u) (sym (is_new p less)) it

  pub order_opening : InOrder valid rules places n (opening_state places start)
  order_opening = record {
    places_are = refl;
    few = begins.few;
    at = λ p less. ap (λ (u : Snapshot S). u.place) (is_new p less);
    occurs = λ p less. begins.known p less;
    own = λ p less. begins.place p less ∙ sym (ap (λ (u : Snapshot S). u.place) (is_new p less));
    within = within_at;
    home = λ p less.
        subst (λ (u : Snapshot S). AllByRecursion (IsHome p) u.caches.urgent × AllByRecursion (IsHome p) u.caches.normal) (sym (is_new p less)) (tt, tt);
    ended = λ p less. inl (ap (λ (u : Snapshot S). u.quit) (is_new p less));
    due = λ p less. subst (λ (u : Snapshot S). count_by (λ (d : ℕ × ℕ). d.1 == n) u.pending.due ≤ waiting_count u.pending n) (sym (is_new p less)) (omega arith);
    waiting_home = λ x b. home b ((outside == x) && (0 == b));
    waiting_within = λ x b. within ((outside == x) && (0 == b));
    senders = λ x b. sender x b ((outside == x) && (0 == b)) refl;
  }
    where
      home : (b : ℕ) (c : Bool) → AllByRecursion (IsHome b) (when c (start_envelope ∷ []))
      home b true = ((λ e. cc), tt)
      home b false = tt

      within : (c : Bool) → AllByRecursion (LeadsWithin (λ q. q < places)) (when c (start_envelope ∷ []))
      within true = (tt, tt)
      within false = tt

      sender : (x b : ℕ) (c : Bool) → ((outside == x) && (0 == b)) ≡ c → IsSender places x ⊎ (when ((outside == x) && (0 == b)) (start_envelope ∷ []) ≡ [])
      sender x b true q = inl (inr (same_number outside x (and_left (outside == x) (0 == b) q)))
      sender x b false q = inr (rw q refl)

  none_carried : carriers a n (opening_state places start) ≡ 0
  none_carried =
      let held : sum_below places (λ p. carriers_at a n (start p)) ≡ 0 = sum_none places (λ p. carriers_at a n (start p)) (λ p less. ap (λ (u : Snapshot S). carriers_at a n u) (is_new p less)) in
      let waiting : sum_below places (carriers_to a n (opening_state places start)) ≡ 0 = sum_none places (carriers_to a n (opening_state places start)) (λ b less. row b) in
      omega arith
    where
      pair : (c : Bool) → count_by (carries a n) (when c (start_envelope ∷ [])) ≡ 0
      pair true = count-cons (carries a n) start_envelope []
      pair false = refl

      row : (b : ℕ) → carriers_to a n (opening_state places start) b ≡ 0
      row b =
          let inside = sum_none places (λ x. count_by (carries a n) ((opening_state places start).waiting x b)) (λ x less. pair ((outside == x) && (0 == b))) in
          let last = pair ((outside == outside) && (0 == b)) in
          omega arith

  pub counted_opening : IsCounted a n (opening_state places start) 0 0
  counted_opening =
      let next : (start a).pending.next ≡ 1 = ap (λ (u : Snapshot S). u.pending.next) (is_new a is_place) in
      let waits : waiting_count (start a).pending n ≡ 0 = ap (λ (u : Snapshot S). waiting_count u.pending n) (is_new a is_place) in
      let none = none_carried in
      let given : given_between 1 (start a).pending.next n ≡ 0 = ap (λ (k : ℕ). given_between 1 k n) next ∙ none_given 1 n in
      record { low = omega arith; most = omega arith; cover = omega arith; once = omega arith; exact = λ q. omega arith }
