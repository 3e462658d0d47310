-- What a driver's journals record is legal, and its actors stand where the record ends.
use Rattle.std.proofs.Common.{◌≡◌, ℕ, ◌+◌, ◌-◌, ◌<◌, ◌≤◌, ◌==◌, ◌&&◌, ◌⊎◌, max, nat_lt, Bool, true, false, List, [], ◌∷◌, ◌++◌, length, Some, refl, ap, sym, ◌∙◌, subst, arith, append_assoc, inl, inr}
use Rattle.std.proofs.lemmas.Bool.{lt-ltb}
use Rattle.std.proofs.lemmas.Bool.Decides.{nat_tests}
use Rattle.std.proofs.lemmas.List.{append-nil}
use Rattle.std.proofs.Math.Path.{fun_ext}
use Rattle.std.specs.List.{AllByRecursion}
use Rattle.std.specs.Prelude.{slice_get}
use Rattle.caf_message.specs.declared.envelope.Taken.{Taken}
use Rattle.caf_message.specs.Envelope.{outside}
use Rattle.caf_message.specs.Outside.{outside_envelope}
use Rattle.caf_actor.specs.declared.journal.TakenBatch.{TakenBatch}
use Rattle.caf_actor.specs.declared.snapshot.Snapshot.{Snapshot}
use Rattle.caf_actor.specs.Rules.{Rules}
use Rattle.caf_actor.specs.Actor.{ActorState}
use Rattle.caf_actor.specs.Record.{Machine, machine_of, after, ends, latest, when, told, heard, untaken, IsAtRest, IsLegal, cut_in}
use Rattle.caf_actor.specs.Run.{State, Turn, Step, Take, Speak, opening_state, take_batch, next_notice, send_notice, IsRun, run, batches_of}
use Rattle.caf_record.specs.RunRecord.{journal_at}
use Rattle.caf_record.proofs.ListLemmas.{nil_left, nil_right}
use Rattle.caf_record.proofs.StandsLemmas.{with_turn, HasStamps, Stands, untaken_waits}
use Rattle.caf_record.proofs.StampedLemmas.{has_stamps}
use Rattle.caf_record.proofs.RunLemmas.{Heard, on_take, on_notice}
use Rattle.caf_driver.specs.Driver.{DriverState, journals_of, snapshot_in, record_in, ticks_in, unheard, IsDriven, IsAllHeard, HasLegalRecord}
use Rattle.caf_driver.proofs.ListLemmas.{get_some, field_at, fields}
use Rattle.caf_driver.proofs.StepLemmas.{place_at}
use Rattle.caf_driver.proofs.DrivenLemmas.{nothing_unsaid}

-- ---- where a run leads: all is heard, or its last step was a notice

module _ {S : Type 0} (m : Machine S) (has : HasStamps m) (ticks places : ℕ) (start : ℕ → S) (small : places ≤ outside) where
  abbrev HeardThere : (ℕ → List TakenBatch) → State S → Type 0
  HeardThere done s = Heard m has ticks places start small done s

  -- the last notice waits, and before it all was heard
  pub record HasSaid (done : ℕ → List TakenBatch) (s : State S) : Type 0 where
    pub before : State S
    pub heard : HeardThere done before
    pub said : s ≡ send_notice m ticks before

  abbrev pub Leads : (ℕ → List TakenBatch) → State S → Type 0
  Leads done s = HeardThere done s ⊎ HasSaid done s

  joined_on : (done : ℕ → List TakenBatch) (t : Turn) (steps : List Step) → ◌≡◌ {A = ℕ → List TakenBatch} (λ p. with_turn done t p ++ batches_of p steps) (λ p. done p ++ batches_of p (Take t ∷ steps))
  joined_on done t steps = fun_ext (λ p. go p (p == t.place) refl)
    where
      go : (p : ℕ) (c : Bool) → (p == t.place) ≡ c → with_turn done t p ++ batches_of p steps ≡ done p ++ batches_of p (Take t ∷ steps)
      go p true q = rw q (append_assoc (done p) (t.batch ∷ []) (batches_of p steps))
      go p false q = rw q refl

  leads_on : (steps : List Step) (done : ℕ → List TakenBatch) (s : State S) → HeardThere done s → IsRun m ticks s steps → Leads (λ p. done p ++ batches_of p steps) (run m ticks s steps)
  leads_on [] done s h r = subst (λ (j : ℕ → List TakenBatch). Leads j s) (sym (fun_ext (λ p. append-nil (done p)))) (inl h)
  leads_on (Take t ∷ steps) done s h r =
      subst (λ (j : ℕ → List TakenBatch). Leads j (run m ticks (take_batch m s t) steps)) (joined_on done t steps)
      (leads_on steps (with_turn done t) (take_batch m s t) (on_take m has ticks places start small done s t h r.0) r.1)
  leads_on (Speak ∷ []) done s h r =
      subst (λ (j : ℕ → List TakenBatch). Leads j (send_notice m ticks s)) (sym (fun_ext (λ p. append-nil (done p)))) (inr (record { before = s; heard = h; said = refl }))
  leads_on (Speak ∷ Speak ∷ steps) done s h r =
      let none : [] ≡ s.waiting outside 0 ++ next_notice m ticks s ∷ [] = sym (r.1.0.rest.taken outside 0) in
      let wrong : next_notice m ticks s ∷ [] ≡ [] = nil_right (s.waiting outside 0) (next_notice m ticks s ∷ []) none in cc
  leads_on (Speak ∷ Take t ∷ steps) done s h r =
      subst (λ (j : ℕ → List TakenBatch). Leads j (run m ticks (take_batch m (send_notice m ticks s) t) steps)) (joined_on done t steps)
      (leads_on steps (with_turn done t) (take_batch m (send_notice m ticks s) t) (on_notice m has ticks places start small done s t h r.0 r.1.0) r.1.1)

  no_stamp_below : (es : List Taken) → AllByRecursion (λ e. 0 ≤ e.stamp) es
  no_stamp_below [] = tt
  no_stamp_below (e ∷ es) = (omega arith, no_stamp_below es)

  pub run_leads : (steps : List Step) → IsRun m ticks (opening_state places start) steps → Leads (λ p. batches_of p steps) (run m ticks (opening_state places start) steps)
  run_leads steps r =
      let first : Stands m start (told []) (λ p. []) (opening_state places start) = record { snapshots = λ p. refl; pairs = λ a b. sym (append-nil (when ((outside == a) && (0 == b)) (told []))) } in
      leads_on steps (λ p. []) (opening_state places start) (record {
        places_are = refl;
        legal = record { places = small; inside = λ p le. refl; filled = λ p. tt; stamped = λ p. tt; pairs = λ a b. ((opening_state places start).waiting a b, first.pairs a b); notices = tt; cut = refl };
        below = λ p. tt;
        stands = first;
        spoken = refl;
        quiet = (refl, tt);
        floor = 0;
        reached = tt;
        high = λ a b. no_stamp_below ((opening_state places start).waiting a b);
      }) r

-- ---- the record of a driver

-- whether more were played than were heard
heard_up_to : (n spoken : ℕ) → spoken ≤ n → nat_lt n spoken ≡ false
heard_up_to n spoken le = grind (arith, nat_tests)

module _ {S : Type 0} (rules : Rules S) (start : ℕ → Snapshot S) (d : DriverState S) (small : length (journals_of d) ≤ outside) (driven : IsDriven rules start d) where
  abbrev m : Machine (Snapshot S)
  m = machine_of rules

  abbrev count : ℕ
  count = length (journals_of d)

  abbrev state : State (Snapshot S)
  state = run m (ticks_in d) (opening_state count start) driven.steps

  abbrev journal : ℕ → List TakenBatch
  journal = journal_at (journals_of d)

  abbrev Has : Type 0
  Has = Leads m (has_stamps rules) (ticks_in d) count start small journal state

  leads : Has
  leads = subst (λ (j : ℕ → List TakenBatch). Leads m (has_stamps rules) (ticks_in d) count start small j state) (fun_ext driven.journals) (run_leads m (has_stamps rules) (ticks_in d) count start small driven.steps driven.possible)

  pub snapshot_ends : (p : ℕ) → snapshot_in start d p ≡ ends m (record_in start d) p
  snapshot_ends p = sym (driven.stands.snapshots p) ∙ place_at m (ticks_in d) (opening_state count start) driven.steps p ∙ ap (after m (start p)) (driven.journals p)

  legal_now : Has → IsLegal m (ticks_in d) (record_in start d)
  legal_now (inl h) = h.legal
  legal_now (inr h) = h.heard.legal

  waits_so : Has → (a b : ℕ) → state.waiting a b ≡ untaken m (record_in start d) a b ++ when ((outside == a) && (0 == b)) (unheard rules start d)
  waits_so (inl h) a b =
      let played : state.spoken ≡ max 1 d.spoken = driven.stands.spoken in
      let all : length (heard (journal 0)) + 1 ≡ state.spoken = h.spoken in
      let none : nat_lt (length (heard (journal 0)) + 1) d.spoken ≡ false = heard_up_to (length (heard (journal 0)) + 1) d.spoken (omega arith) in
      let nothing : unheard rules start d ≡ [] = rw none refl in
      sym (untaken_waits m start count (cut_in (journal 0)) journal state h.stands a b) ∙ sym (append-nil (untaken m (record_in start d) a b))
      ∙ ap (λ es. untaken m (record_in start d) a b ++ es) (sym (ap (when ((outside == a) && (0 == b))) nothing ∙ when_nothing ((outside == a) && (0 == b))))
    where
      when_nothing : (c : Bool) → when c [] ≡ []
      when_nothing true = refl
      when_nothing false = refl
  waits_so (inr h) a b =
      let u : State (Snapshot S) = h.before in
      let played : state.spoken ≡ max 1 d.spoken = driven.stands.spoken in
      let all : length (heard (journal 0)) + 1 ≡ u.spoken = h.heard.spoken in
      let next : state.spoken ≡ u.spoken + 1 = ap (λ (x : State (Snapshot S)). x.spoken) h.said in
      let some : nat_lt (length (heard (journal 0)) + 1) d.spoken ≡ true = lt-ltb (length (heard (journal 0)) + 1) d.spoken (omega arith) in
      let number : u.spoken ≡ d.spoken - 1 = omega arith in
      let it : next_notice m (ticks_in d) u ≡ outside_envelope (ticks_in d) (d.spoken - 1) (latest m count (ends m (record_in start d))) =
      ap (λ n. outside_envelope (ticks_in d) n (latest m u.places u.snapshot)) number
      ∙ ap (λ n. outside_envelope (ticks_in d) (d.spoken - 1) (latest m n u.snapshot)) h.heard.places_are
      ∙ ap (λ (at : ℕ → Snapshot S). outside_envelope (ticks_in d) (d.spoken - 1) (latest m count at)) (fun_ext h.heard.stands.snapshots) in
      let one : unheard rules start d ≡ next_notice m (ticks_in d) u ∷ [] = rw some (ap (λ e. e ∷ []) (sym it)) in
      ap (λ (x : State (Snapshot S)). x.waiting a b) h.said
      ∙ ap (λ es. es ++ when ((outside == a) && (0 == b)) (next_notice m (ticks_in d) u ∷ [])) (sym (untaken_waits m start count (cut_in (journal 0)) journal u h.heard.stands a b))
      ∙ ap (λ es. untaken m (record_in start d) a b ++ when ((outside == a) && (0 == b)) es) (sym one)

  pub legal_driven : HasLegalRecord rules start d
  legal_driven = record {
    legal = legal_now leads;
    snapshots = snapshot_ends;
    waiting = λ a b. sym (driven.stands.waiting a b) ∙ waits_so leads a b;
  }

  -- ---- at rest

  module _ (some : 0 < d.spoken) (nothing : (a b : ℕ) → d.waiting a b ≡ []) (idle : (p : ℕ) (a : ActorState S) → slice_get d.actors p ≡ Some a → m.is_idle a.snapshot ≡ true) where
    none_waits : (a b : ℕ) → state.waiting a b ≡ []
    none_waits a b = driven.stands.waiting a b ∙ ap (λ es. es ++ d.waiting a b) (nothing_unsaid d some a b) ∙ nothing a b

    rests : IsAtRest m (record_in start d)
    rests = record {
      taken = λ a b. nil_left (untaken m (record_in start d) a b) (when ((outside == a) && (0 == b)) (unheard rules start d)) (sym (none_waits a b) ∙ waits_so leads a b);
      idle = λ p lt.
          let all = fields (λ (a : ActorState S). a.journal) d.actors in
          let found = get_some d.actors p (omega arith) in
          ap m.is_idle (sym (snapshot_ends p) ∙ field_at (λ (a : ActorState S). a.snapshot) d.actors p found.0 (start p) found.1) ∙ idle p found.0 found.1;
    }

    hears : Has → IsAllHeard d
    hears (inl h) =
        let played : state.spoken ≡ max 1 d.spoken = driven.stands.spoken in
        let all : length (heard (journal 0)) + 1 ≡ state.spoken = h.spoken in
        omega arith
    hears (inr h) =
        let u : State (Snapshot S) = h.before in
        let left : [] ≡ u.waiting outside 0 ++ next_notice m (ticks_in d) u ∷ [] = sym (none_waits outside 0) ∙ ap (λ (x : State (Snapshot S)). x.waiting outside 0) h.said in
        let wrong : next_notice m (ticks_in d) u ∷ [] ≡ [] = nil_right (u.waiting outside 0) (next_notice m (ticks_in d) u ∷ []) left in cc

    pub rest_driven : IsAtRest m (record_in start d) × IsAllHeard d
    rest_driven = (rests, hears leads)
