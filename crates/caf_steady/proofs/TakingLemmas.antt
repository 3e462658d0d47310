-- In the run that a record's merge is, each place takes only what may come to it.
use Rattle.std.proofs.Common.{◌≡◌, ℕ, ◌<◌, ◌∙◌, ◌==◌, ◌&&◌, Bool, true, false, List, [], ◌∷◌, length, map, refl, ap, sym, subst}
use Rattle.std.specs.List.{AllByRecursion}
use Rattle.caf_message.specs.Envelope.{outside, start_envelope}
use Rattle.caf_message.specs.declared.envelope.Taken.{Taken}
use Rattle.caf_mailbox.proofs.NextLemmas.{all_append}
use Rattle.caf_actor.specs.declared.journal.TakenBatch.{TakenBatch}
use Rattle.caf_actor.specs.declared.snapshot.Snapshot.{Snapshot}
use Rattle.caf_actor.specs.Drain.{batch_of}
use Rattle.caf_actor.specs.Merge.{batches_in, steps_of}
use Rattle.caf_actor.specs.PlainInput.{PlainInput, Start}
use Rattle.caf_actor.specs.PlainPost.{PlainPost}
use Rattle.caf_actor.specs.Record.{Machine, machine_of, heard, holds_notice, joined, from_place, to_place, when}
use Rattle.caf_actor.specs.Rules.{Rules}
use Rattle.caf_actor.specs.Run.{State, Turn, Take, MayTake, IsRun, opening_state, without, take_batch}
use Rattle.caf_record.proofs.ListLemmas.{all_left, all_drop}
use Rattle.caf_record.proofs.MergeLemmas.{merge_runs}
use Rattle.caf_record.proofs.StampedLemmas.{has_stamps}
use Rattle.caf_carriers.proofs.CountLemmas.{same_number, self_same}
use Rattle.caf_steady.specs.Outline.{Outlined, outline_of, outlined, bare}
use Rattle.caf_steady.specs.Reading.{in_turn}
use Rattle.caf_steady.specs.Steady.{Brings, IsSteady}
use Rattle.caf_steady.specs.Classes.{BeginsSteady, TakesItsClass}
use Rattle.caf_steady.proofs.ClassLemmas.{Arrives, Behaves, read_behaves, steady_behavior}
use Rattle.caf_steady.proofs.ReadingLemmas.{batch_read, brought_in_turn}

-- what holds of the envelopes of each sender holds of all
all_senders : (P : Taken → Type 0) (es : List Taken) → ((x : ℕ) → AllByRecursion P (from_place x es)) → AllByRecursion P es
all_senders P [] h = tt
all_senders P (e ∷ es) h =
    (let k : AllByRecursion P (e ∷ from_place e.sender es) = rw (self_same e.sender) at (h e.sender) in k.0, all_senders P es (λ x. go x (e.sender == x) refl))
  where
    go : (x : ℕ) (b : Bool) → (e.sender == x) ≡ b → AllByRecursion P (from_place x es)
    go x true q = let k : AllByRecursion P (e ∷ from_place x es) = rw q at (h x) in k.1
    go x false q = rw q at (h x)

module _ {S : Type 0} (rules : Rules S) (comes : ℕ → PlainInput → Bool) where
  -- ---- one place

  begins_steady : (p : ℕ) (s : Snapshot S) → BeginsSteady comes rules p s → IsSteady rules (comes p) s
  begins_steady p s h = record { behavior = steady_behavior comes rules p s.behavior h.keeps; begun = h.begun; here = h.here; awaits = h.awaits }

  -- posts that may come where they go
  all_arrive : (b : ℕ) (ps : List PlainPost) → AllByRecursion (Arrives comes) (map bare ps) → AllByRecursion (Brings (comes b)) (to_place b ps)
  all_arrive b [] h = tt
  all_arrive b (p ∷ ps) h = go (p.to == b) refl (all_arrive b ps h.1)
    where
      go : (c : Bool) → (p.to == b) ≡ c → AllByRecursion (Brings (comes b)) (to_place b ps) → AllByRecursion (Brings (comes b)) (to_place b (p ∷ ps))
      go true q k = rw q (subst (λ (x : ℕ). Brings (comes x) p.envelope) (same_number p.to b q) h.0, k)
      go false q k = rw q k

  pub record Taking (p : ℕ) (s : Snapshot S) (batch : List Taken) : Type 0 where
    pub begins : BeginsSteady comes rules p (batch_of rules s batch).snapshot
    pub arrive : (b : ℕ) → AllByRecursion (Brings (comes b)) (to_place b (batch_of rules s batch).posts)

  takes_batch : (p : ℕ) (s : Snapshot S) (batch : List Taken) → BeginsSteady comes rules p s → AllByRecursion (Brings (comes p)) batch → Taking p s batch
  takes_batch p s batch h all =
      let first = batch_read rules (comes p) s batch (begins_steady p s h) h.empty all in
      let o : Outlined S = record { outline = outline_of s; sent = [] } in
      let behaves = read_behaves comes rules p o (in_turn batch) (brought_in_turn rules (comes p) batch all) (record { at = h.at; keeps = h.keeps; arrive = tt }) in
      let here : Behaves comes rules p (outlined (batch_of rules s batch)) = subst (Behaves comes rules p) (sym first.told) behaves in
      record {
        begins = record { at = here.at; keeps = here.keeps; begun = first.steady.begun; here = first.steady.here; awaits = first.steady.awaits; empty = first.handled };
        arrive = λ b. all_arrive b (batch_of rules s batch).posts here.arrive;
      }

  -- ---- all places

  pub record Inside (n : ℕ) (s : State (Snapshot S)) : Type 0 where
    pub places_are : s.places ≡ n
    pub begins : (p : ℕ) → p < n → BeginsSteady comes rules p (s.snapshot p)
    pub waits : (a b : ℕ) → AllByRecursion (Brings (comes b)) (s.waiting a b)

  abbrev m : Machine (Snapshot S)
  m = machine_of rules

  batch_comes : (n : ℕ) (s : State (Snapshot S)) (t : Turn) → Inside n s → MayTake m s t → AllByRecursion (Brings (comes t.place)) t.batch.taken
  batch_comes n s t h may = all_senders (Brings (comes t.place)) t.batch.taken (λ a.
      all_left (Brings (comes t.place)) (from_place a t.batch.taken) (may.next a).0
      (subst (AllByRecursion (Brings (comes t.place))) (sym (may.next a).1) (h.waits a t.place)))

  takes_turn : (n : ℕ) (s : State (Snapshot S)) (t : Turn) → Inside n s → MayTake m s t → Inside n (take_batch m s t)
  takes_turn n s t h may = record {
    places_are = h.places_are;
    begins = λ p less. stands p less (p == t.place) refl;
    waits = λ a b. all_append (Brings (comes b)) (without (b == t.place) (from_place a t.batch.taken) (s.waiting a b)) _ (left a b (b == t.place)) (posted_to a b (a == t.place) refl);
  }
    where
      here : t.place < n
      here = subst (λ (x : ℕ). t.place < x) h.places_are may.place

      taking : Taking t.place (s.snapshot t.place) t.batch.taken
      taking = takes_batch t.place (s.snapshot t.place) t.batch.taken (h.begins t.place here) (batch_comes n s t h may)

      stands : (p : ℕ) → p < n → (b : Bool) → (p == t.place) ≡ b → BeginsSteady comes rules p ((take_batch m s t).snapshot p)
      stands p less true q =
          rw q (subst (λ (x : ℕ). BeginsSteady comes rules x (m.play (s.snapshot x) t.batch.taken).0) (sym (same_number p t.place q)) taking.begins)
      stands p less false q = rw q (h.begins p less)

      left : (a b : ℕ) (c : Bool) → AllByRecursion (Brings (comes b)) (without c (from_place a t.batch.taken) (s.waiting a b))
      left a b true = all_drop (Brings (comes b)) (length (from_place a t.batch.taken)) (s.waiting a b) (h.waits a b)
      left a b false = h.waits a b

      posted_to : (a b : ℕ) (c : Bool) → (a == t.place) ≡ c → AllByRecursion (Brings (comes b)) (when c (to_place b (m.play (s.snapshot a) t.batch.taken).1))
      posted_to a b true q =
          subst (λ (x : ℕ). AllByRecursion (Brings (comes b)) (to_place b (m.play (s.snapshot x) t.batch.taken).1)) (sym (same_number a t.place q)) (taking.arrive b)
      posted_to a b false q = tt

  -- ---- all turns

  abbrev Speaks : Turn → Bool
  Speaks t = (0 == t.place) && holds_notice t.batch

  comes_all : (ticks n : ℕ) (ts : List Turn) (s : State (Snapshot S)) → Inside n s → AllByRecursion (λ t. Speaks t ≡ false) ts → IsRun m ticks s (steps_of ts)
      → (p : ℕ) → AllByRecursion (Brings (comes p)) (joined (batches_in p ts))
  comes_all ticks n [] s h quiet runs p = tt
  comes_all ticks n (t ∷ ts) s h quiet runs p =
      let steps : IsRun m ticks s (Take t ∷ steps_of ts) = rw quiet.0 at runs in
      go (p == t.place) refl (batch_comes n s t h steps.0) (comes_all ticks n ts (take_batch m s t) (takes_turn n s t h steps.0) quiet.1 steps.1 p)
    where
      go : (c : Bool) → (p == t.place) ≡ c → AllByRecursion (Brings (comes t.place)) t.batch.taken → AllByRecursion (Brings (comes p)) (joined (batches_in p ts))
          → AllByRecursion (Brings (comes p)) (joined (batches_in p (t ∷ ts)))
      go true q first later =
          rw q (all_append (Brings (comes p)) t.batch.taken (joined (batches_in p ts))
          (subst (λ (x : ℕ). AllByRecursion (Brings (comes x)) t.batch.taken) (sym (same_number p t.place q)) first) later)
      go false q first later = rw q later

all_quiet : (ts : List Turn) → heard (batches_in 0 ts) ≡ [] → AllByRecursion (λ (t : Turn). ((0 == t.place) && holds_notice t.batch) ≡ false) ts
all_quiet [] none = tt
all_quiet (t ∷ ts) none = go (all_quiet ts) (0 == t.place) refl (holds_notice t.batch) refl
  where
    Quiet : List Turn → Type 0
    Quiet us = AllByRecursion (λ (u : Turn). ((0 == u.place) && holds_notice u.batch) ≡ false) us

    go : (heard (batches_in 0 ts) ≡ [] → Quiet ts) → (b : Bool) → (0 == t.place) ≡ b → (c : Bool) → holds_notice t.batch ≡ c → Quiet (t ∷ ts)
    go later true q true r = let no : ◌≡◌ {A = List TakenBatch} (t.batch ∷ heard (batches_in 0 ts)) [] = rw (q, r) at none in cc
    go later true q false r = (rw (q, r) refl, later (rw (q, r) at none))
    go later false q c r = (rw q refl, later (rw q at none))

pub takes_its_class : {S : Type 0} (rules : Rules S) → TakesItsClass rules
takes_its_class {S} rules comes ticks k ts legal merge silent start begins p =
    subst (λ (bs : List TakenBatch). AllByRecursion (Brings (comes p)) (joined bs)) (merge.parts p)
    (comes_all rules comes ticks k.places ts (opening_state k.places k.start) opening quiet (merge_runs (machine_of rules) (has_stamps rules) ticks k legal ts merge).0 p)
  where
    quiet : AllByRecursion (λ (t : Turn). ((0 == t.place) && holds_notice t.batch) ≡ false) ts
    quiet = all_quiet ts (ap heard (merge.parts 0) ∙ silent)

    waits : (a b : ℕ) (c d : Bool) → (0 == b) ≡ d → AllByRecursion (Brings (comes b)) (when (c && d) (start_envelope ∷ []))
    waits a b true true q = (subst (λ (x : ℕ). comes x Start ≡ true) (same_number 0 b q) start, tt)
    waits a b true false q = tt
    waits a b false d q = tt

    opening : Inside rules comes k.places (opening_state k.places k.start)
    opening = record { places_are = refl; begins = begins; waits = λ a b. waits a b (outside == a) (0 == b) refl }
