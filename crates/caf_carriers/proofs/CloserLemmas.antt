-- In a run with a closer at place 0, no content is sent to it, it holds nothing, and it never quits.
use Rattle.std.proofs.Common.{◌≡◌, ◌≢◌, ℕ, zero, suc, ◌<◌, ◌∙◌, sym, ap, subst, ◌==◌, ◌&&◌, Bool, true, false, List, [], ◌∷◌, ◌++◌, length, refl, arith, inl, inr}
use Rattle.std.specs.Prelude.{Contains, slice_index_or}
use Rattle.std.specs.List.{AllByRecursion}
use Rattle.std.proofs.lemmas.List.Elements.{Contains-append_right}
use Rattle.caf_message.specs.declared.envelope.Taken.{Taken}
use Rattle.caf_message.specs.Envelope.{outside, start_envelope}
use Rattle.caf_mailbox.proofs.NextLemmas.{all_append}
use Rattle.caf_actor.specs.declared.snapshot.Snapshot.{Snapshot}
use Rattle.caf_actor.specs.PlainInput.{PlainInput}
use Rattle.caf_actor.specs.PlainOutput.{PlainOutput}
use Rattle.caf_actor.specs.PlainReaction.{PlainReaction}
use Rattle.caf_actor.specs.PlainPost.{PlainPost}
use Rattle.caf_actor.specs.Rules.{Rules, IsTarget, HasTargets, MayBeGiven, fed, MayBeFed, output_targets, answer_targets, AnswersRequests, StaysValid, StaysSameActor, SendsToPeers}
use Rattle.caf_actor.specs.Snapshot.{Handled, so_far, fresh}
use Rattle.caf_actor.specs.Drain.{batch_of}
use Rattle.caf_actor.specs.Record.{machine_of, to_place, when, SendsNothingTo, IsCloser}
use Rattle.caf_actor.specs.Run.{State, Turn, Step, Take, Speak, MayTake, take_batch, next_notice, step, IsPossible, opening_state}
use Rattle.caf_actor.specs.Carriers.{AreFresh, IsReserved}
use Rattle.caf_record.proofs.ListLemmas.{all_map}
use Rattle.caf_carriers.proofs.CountLemmas.{same_number}
use Rattle.caf_carriers.proofs.PlaceLemmas.{AvoidsZero, IsFor, GoesElsewhere, Outcome, Going, Left, Behaves, acts_batch}
use Rattle.caf_carriers.proofs.RunLemmas.{InOrder, of_batch, at_each, all_waiting}

-- ---- what is fed in two parts

module _ {S : Type 0} (rules : Rules S) where
  fed_last : (s : S) (is : List PlainInput) (i : PlainInput) → fed rules s (is ++ i ∷ []) ≡ rules.next (fed rules s is) i
  fed_last s [] i = refl
  fed_last s (j ∷ is) i = fed_last (rules.next s j) is i

  may_last : (s : S) (is : List PlainInput) (i : PlainInput) → MayBeFed rules s is → MayBeGiven rules (fed rules s is) i → MayBeFed rules s (is ++ i ∷ [])
  may_last s [] i h may = (may, tt)
  may_last s (j ∷ is) i h may = (h.0, may_last (rules.next s j) is i h.1 may)

-- ---- behaviours

module _ {S : Type 0} (valid : S → Type 0) (rules : Rules S) (start : S) where
  -- the closer was fed what it may be fed
  abbrev pub WasFed : S → Type 0
  WasFed s = (is : List PlainInput) × ((s ≡ fed rules start is) × MayBeFed rules start is)

  -- another one occurs, and doesn't name place 0
  abbrev pub NamesOthers : S → Type 0
  NamesOthers s = valid s × ((q : ℕ) → IsTarget rules s q → q ≢ 0)

  abbrev pub KnownAt : Bool → S → Type 0
  KnownAt true s = WasFed s
  KnownAt false s = NamesOthers s

module _ {S : Type 0} (valid : S → Type 0) (rules : Rules S) (stays : StaysValid valid rules) (same : StaysSameActor valid rules) (peers : SendsToPeers valid rules)
    (places : ℕ) (start : ℕ → S) (closer : IsCloser rules places start) where
  fed_on : (s : S) (i : PlainInput) → (h : WasFed valid rules (start 0) s) → MayBeGiven rules s i → MayBeFed rules (start 0) (h.0 ++ i ∷ [])
  fed_on s i h may = may_last rules (start 0) h.0 i h.1.1 (subst (λ (x : S). MayBeGiven rules x i) h.1.0 may)

  closer_behaves : Behaves 0 (◌≢◌ {A = ℕ} 0 0) (WasFed valid rules (start 0)) rules
  closer_behaves = record {
    sends = λ s i h may. subst (λ (x : S). SendsNothingTo 0 (rules.reaction x i)) (sym h.1.0) (closer.alone h.0 i (fed_on s i h may));
    next = λ s i h may. (h.0 ++ i ∷ [], (ap (λ (x : S). rules.next x i) h.1.0 ∙ sym (fed_last rules (start 0) h.0 i), fed_on s i h may));
    quits = λ s i h may. inl (ap (λ (x : S). (rules.reaction x i).quit) h.1.0 ∙ closer.stays h.0 i (fed_on s i h may));
  }

  targets_in : (s : S) (r : PlainReaction) → ((q : ℕ) → IsTarget rules s q → q ≢ 0) → HasTargets rules s r → SendsNothingTo 0 r
  targets_in s r others has = record { outputs = each r.outputs has.outputs; answer = all_map (IsTarget rules s) (λ q. q ≢ 0) others (answer_targets r.answer) has.answer }
    where
      each : (os : List PlainOutput) → AllByRecursion (λ o. AllByRecursion (IsTarget rules s) (output_targets o)) os → AllByRecursion (λ o. AllByRecursion (λ to. to ≢ 0) (output_targets o)) os
      each [] h = tt
      each (o ∷ os) h = (all_map (IsTarget rules s) (λ q. q ≢ 0) others (output_targets o) h.0, each os h.1)

  other_behaves : (p : ℕ) → p ≢ 0 → Behaves p (p ≢ 0) (NamesOthers valid rules (start 0)) rules
  other_behaves p other = record {
    sends = λ s i h may. targets_in s (rules.reaction s i) h.1 (peers s i h.0 may);
    next = λ s i h may.
        let next = same s i h.0 may in
        let places : ◌≡◌ {A = List ℕ} (rules.place (rules.next s i) ∷ (rules.peers (rules.next s i) ++ rules.reserve (rules.next s i))) (rules.place s ∷ (rules.peers s ++ rules.reserve s)) =
        λ k. next.place k ∷ (next.peers k ++ next.reserve k) in
        (stays s i h.0 may, λ q is. h.1 q (subst (λ (ps : List ℕ). Contains ps q) places is));
    quits = λ s i h may. inr other;
  }

  pub other_place : (p : ℕ) → (p == 0) ≡ false → p ≢ 0
  other_place p e = λ here. let no : (0 == 0) ≡ false = subst (λ (x : ℕ). (x == 0) ≡ false) here e in cc

  pub behaves_at : (p : ℕ) (b : Bool) → (p == 0) ≡ b → Behaves p (p ≢ 0) (KnownAt valid rules (start 0) b) rules
  behaves_at p true e = subst (λ (x : ℕ). Behaves x (x ≢ 0) (WasFed valid rules (start 0)) rules) (sym (same_number p 0 e)) closer_behaves
  behaves_at p false e = other_behaves p (other_place p e)

  -- ---- states

  abbrev pub OutcomeAt : ℕ → Handled S → Type 0
  OutcomeAt p t = Outcome p (p ≢ 0) (KnownAt valid rules (start 0) (p == 0)) t

  pub record Closing (s : State (Snapshot S)) : Type 0 where
    pub each : (p : ℕ) → p < places → OutcomeAt p (so_far (s.snapshot p) [])
    pub waiting : (x b : ℕ) → AllByRecursion (IsFor b) (s.waiting x b)

  settled : (p : ℕ) (t : Handled S) → OutcomeAt p t → OutcomeAt p (so_far t.snapshot []) × AllByRecursion GoesElsewhere t.posts
  settled p t (Going h) =
      (Going (record { at = h.at; quit_is = h.quit_is; known = h.known; begun_is = h.begun_is; listed = h.listed; undue = h.undue; held = h.held; later = h.later; goes = tt }), h.goes)
  settled p t (Left may why h) =
      (Left may why (record { at = h.at; quit_is = h.quit_is; known = h.known; begun_is = h.begun_is; listed = h.listed; undue = h.undue; held = h.held; later = h.later; goes = tt }), h.goes)

  for_place : (b : ℕ) (ps : List PlainPost) → AllByRecursion GoesElsewhere ps → AllByRecursion (IsFor b) (to_place b ps)
  for_place b [] h = tt
  for_place b (q ∷ ps) h = go (q.to == b) refl (for_place b ps h.1)
    where
      go : (c : Bool) → (q.to == b) ≡ c → AllByRecursion (IsFor b) (to_place b ps) → AllByRecursion (IsFor b) (to_place b (q ∷ ps))
      go true e k = let here : IsFor b q.envelope = subst (λ (x : ℕ). AvoidsZero x q.envelope.mid q.envelope.body) (same_number q.to b e) h.0 in rw e (here, k)
      go false e k = rw e k

  pub batch_outcome : (p : ℕ) (s : Snapshot S) (batch : List Taken) → AllByRecursion (IsFor p) batch → OutcomeAt p (so_far s []) → OutcomeAt p (batch_of rules s batch)
  batch_outcome p s batch all h = acts_batch p (p ≢ 0) (KnownAt valid rules (start 0) (p == 0)) rules (behaves_at p (p == 0) refl) (other_place p) s batch all h

  module _ (answers : AnswersRequests valid rules) (n : ℕ) (is_place : 0 < places) where
    pub closing_take : (s : State (Snapshot S)) (t : Turn) → (may : MayTake (machine_of rules) s t) → InOrder valid rules places n s → Closing s → Closing (take_batch (machine_of rules) s t)
    closing_take s t may order h =
        let here : t.place < places = subst (λ (k : ℕ). t.place < k) order.places_are may.place in
        let batch : AllByRecursion (IsFor t.place) t.batch.taken = of_batch valid rules stays same peers answers 0 n places is_place s t may order (IsFor t.place) (λ x. h.waiting x t.place) in
        let after = settled t.place (batch_of rules (s.snapshot t.place) t.batch.taken) (batch_outcome t.place (s.snapshot t.place) t.batch.taken batch (h.each t.place here)) in
        record {
          each = at_each valid rules stays same peers answers 0 n places is_place s t may order (λ p u. OutcomeAt p (so_far u [])) after.0 h.each;
          waiting = all_waiting valid rules stays same peers answers 0 n places is_place s t may order (λ b. IsFor b) h.waiting (λ b. for_place b (batch_of rules (s.snapshot t.place) t.batch.taken).posts after.1);
        }

    pub closing_step : (ticks : ℕ) (s : State (Snapshot S)) (b : Step) → IsPossible (machine_of rules) ticks s b → InOrder valid rules places n s → Closing s → Closing (step (machine_of rules) ticks s b)
    closing_step ticks s (Take t) may order h = closing_take s t may order h
    closing_step ticks s Speak may order h = record {
      each = h.each;
      waiting = λ x b.
          all_append (IsFor b) (s.waiting x b) (when ((outside == x) && (0 == b)) (next_notice (machine_of rules) ticks s ∷ [])) (h.waiting x b) (notice b ((outside == x) && (0 == b)));
    }
      where
        notice : (b : ℕ) (c : Bool) → AllByRecursion (IsFor b) (when c (next_notice (machine_of rules) ticks s ∷ []))
        notice b true = ((λ e. cc), tt)
        notice b false = tt

-- ---- opening states

module _ {S : Type 0} (valid : S → Type 0) (rules : Rules S) (stays : StaysValid valid rules) (same : StaysSameActor valid rules) (peers : SendsToPeers valid rules) (places : ℕ) (start : ℕ → Snapshot S)
    (begins : AreFresh valid rules places start) (closer : IsCloser rules places (λ p. (start p).behavior)) where
  abbrev news : ℕ → Snapshot S
  news p = fresh rules (start p).has_begun p (start p).behavior (start p).stamp

  names_others : (p : ℕ) → p < places → p ≢ 0 → (q : ℕ) → IsTarget rules (start p).behavior q → q ≢ 0
  names_others p less other q is zero_is = go is.0 is.1 is.2
    where
      go : (k : ℕ) → k < length (rules.place (start p).behavior ∷ (rules.peers (start p).behavior ++ rules.reserve (start p).behavior))
          → slice_index_or (rules.place (start p).behavior ∷ (rules.peers (start p).behavior ++ rules.reserve (start p).behavior)) k q ≡ q → ⊥
      go zero low e = other (sym (begins.place p less) ∙ e ∙ zero_is)
      go (suc k) low e = closer.unnamed p less (subst (λ (x : ℕ). Contains (rules.peers (start p).behavior ++ rules.reserve (start p).behavior) x) zero_is (k, omega arith, e))

  begun_at : (p : ℕ) → p < places → p ≡ 0 → (start p).has_begun ≡ true
  begun_at p less here = go (start p).has_begun refl
    where
      go : (b : Bool) → (start p).has_begun ≡ b → b ≡ true
      go true e = refl
      go false e =
          let reserved : IsReserved rules places start p = (begins.begun p less).0 e in
          let named : Contains (rules.reserve (start reserved.0).behavior) 0 = subst (λ (x : ℕ). Contains (rules.reserve (start reserved.0).behavior) x) here reserved.2 in
          absurd (closer.unnamed reserved.0 reserved.1 (Contains-append_right (rules.peers (start reserved.0).behavior) (rules.reserve (start reserved.0).behavior) 0 named))

  known_at : (p : ℕ) → p < places → (b : Bool) → (p == 0) ≡ b → KnownAt valid rules (start 0).behavior b (start p).behavior
  known_at p less true e = ([], (ap (λ (x : ℕ). (start x).behavior) (same_number p 0 e), tt))
  known_at p less false e = (begins.known p less, names_others p less (λ here. let no : (0 == 0) ≡ false = subst (λ (x : ℕ). (x == 0) ≡ false) here e in cc))

  opening_at : (p : ℕ) → p < places → OutcomeAt valid rules stays same peers places (λ q. (start q).behavior) closer p (so_far (start p) [])
  opening_at p less =
      let is = begins.fresh p less in
      Going (record {
        at = ap (λ (u : Snapshot S). u.place) is;
        quit_is = ap (λ (u : Snapshot S). u.quit) is;
        known = known_at p less (p == 0) refl;
        begun_is = λ here. begun_at p less here;
        listed = subst (λ (u : Snapshot S). AllByRecursion (IsFor p) u.caches.urgent × AllByRecursion (IsFor p) u.caches.normal) (sym is) (tt, tt);
        undue = inr (ap (λ (u : Snapshot S). u.pending.due) is);
        held = λ here. ap (λ (u : Snapshot S). u.holds) is;
        later = subst (λ (u : Snapshot S). AllByRecursion (λ d. d.to ≢ 0) u.delays) (sym is) tt;
        goes = tt;
      })

  pub closing_opening : Closing valid rules stays same peers places (λ q. (start q).behavior) closer (opening_state places start)
  closing_opening = record { each = opening_at; waiting = λ x b. first b ((outside == x) && (0 == b)) }
    where
      first : (b : ℕ) (c : Bool) → AllByRecursion (IsFor b) (when c (start_envelope ∷ []))
      first b true = ((λ e. cc), tt)
      first b false = tt
