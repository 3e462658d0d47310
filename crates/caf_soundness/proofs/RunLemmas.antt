-- In each run all that waits and all that is taken is as it is to be.
use Rattle.std.proofs.Common.{◌≡◌, ℕ, ◌+◌, ◌<◌, ◌==◌, ◌&&◌, Bool, true, false, List, [], ◌∷◌, length, if◌then◌else◌, refl, sym, subst}
use Rattle.std.specs.List.{AllByRecursion}
use Rattle.caf_message.specs.Envelope.{outside, start_envelope}
use Rattle.caf_message.specs.declared.envelope.Taken.{Taken}
use Rattle.caf_mailbox.proofs.NextLemmas.{all_append}
use Rattle.caf_signature.specs.declared.interface.Signature.{Signature}
use Rattle.caf_actor.specs.declared.snapshot.Snapshot.{Snapshot}
use Rattle.caf_actor.specs.Carriers.{step_resolves, run_resolves}
use Rattle.caf_actor.specs.Drain.{batch_of}
use Rattle.caf_actor.specs.PlainPost.{PlainPost}
use Rattle.caf_actor.specs.Record.{Machine, machine_of, joined, from_place, to_place, when}
use Rattle.caf_actor.specs.Resolutions.{batch_resolves}
use Rattle.caf_actor.specs.Rules.{Rules}
use Rattle.caf_actor.specs.Run.{State, Turn, Step, Take, Speak, MayTake, IsRun, run, opening_state, without, take_batch, next_notice, send_notice, batches_of}
use Rattle.caf_actor.specs.Snapshot.{so_far}
use Rattle.caf_record.proofs.ListLemmas.{all_left, all_drop, same_of, self_equal}
use Rattle.caf_soundness.specs.Typed.{EndsTyped}
use Rattle.caf_soundness.proofs.LogLemmas.{Log, Grows, stays, grows_on}
use Rattle.caf_soundness.proofs.ComesLemmas.{Comes, Arrives, Behaves, Good, After, all_come, all_cached_come, all_declared}
use Rattle.caf_soundness.proofs.DrainLemmas.{batch_good, batch_typed}

-- what holds of the envelopes of each sender holds of all
all_senders : (P : Taken → Type 0) (es : List Taken) → ((x : ℕ) → AllByRecursion P (from_place x es)) → AllByRecursion P es
all_senders P [] h = tt
all_senders P (e ∷ es) h =
    (let k : AllByRecursion P (e ∷ from_place e.sender es) = rw (self_equal e.sender) at (h e.sender) in k.0, all_senders P es (λ x. go x (e.sender == x) refl))
  where
    go : (x : ℕ) (b : Bool) → (e.sender == x) ≡ b → AllByRecursion P (from_place x es)
    go x true q = let k : AllByRecursion P (e ∷ from_place x es) = rw q at (h x) in k.1
    go x false q = rw q at (h x)

module _ (face : ℕ → List Signature) {S : Type 0} (rules : Rules S) (T : Log → ℕ → S → Type 0) (behaves : Behaves face rules T) where
  abbrev m : Machine (Snapshot S)
  m = machine_of rules

  -- ---- one place

  -- it stands so by that log
  abbrev pub Stands : Log → ℕ → Snapshot S → Type 0
  Stands l p s = Good face rules T l p l (so_far s [])

  -- another place's log has grown
  still : (l o : Log) (p : ℕ) (s : Snapshot S) → Grows l o → o p ≡ l p → Stands l p s → Stands o p s
  still l o p s grow same h = record {
    grown = stays o;
    others = λ r q. refl;
    at_is = h.at_is;
    typed = behaves.grows l o p s.behavior grow h.typed;
    numbered = subst (λ (ids : List (List ℕ)). s.pending.next ≡ length ids + 1) (sym same) h.numbered;
    awaits = all_declared face l o grow p s.pending.awaited h.awaits;
    waits = all_declared face l o grow p s.pending.multiplexed h.waits;
    cached = all_cached_come face l o grow p s.caches h.cached;
    delayed = h.delayed;
    posted = tt;
  }

  -- its own log has grown
  on_its_own : (l o : Log) (p : ℕ) (s : Snapshot S) (posts : List PlainPost) → Good face rules T l p o (so_far s posts) → Stands o p s
  on_its_own l o p s posts h = record {
    grown = stays o;
    others = λ r q. refl;
    at_is = h.at_is;
    typed = h.typed;
    numbered = h.numbered;
    awaits = h.awaits;
    waits = h.waits;
    cached = h.cached;
    delayed = h.delayed;
    posted = tt;
  }

  all_arrive_at : (l : Log) (b : ℕ) (ps : List PlainPost) → AllByRecursion (Arrives face l) ps → AllByRecursion (Comes face l b) (to_place b ps)
  all_arrive_at l b [] h = tt
  all_arrive_at l b (p ∷ ps) h = go (p.to == b) refl (all_arrive_at l b ps h.1)
    where
      go : (c : Bool) → (p.to == b) ≡ c → AllByRecursion (Comes face l b) (to_place b ps) → AllByRecursion (Comes face l b) (to_place b (p ∷ ps))
      go true q k = rw q (subst (λ (x : ℕ). Comes face l x p.envelope) (same_of p.to b q) h.0, k)
      go false q k = rw q k

  -- ---- all places

  pub record World (n : ℕ) (l : Log) (s : State (Snapshot S)) : Type 0 where
    pub places_are : s.places ≡ n
    pub stands : (p : ℕ) → p < n → Stands l p (s.snapshot p)
    pub comes : (a b : ℕ) → AllByRecursion (Comes face l b) (s.waiting a b)

  batch_comes : (n : ℕ) (l : Log) (s : State (Snapshot S)) (t : Turn) → World n l s → MayTake m s t → AllByRecursion (Comes face l t.place) t.batch.taken
  batch_comes n l s t h may = all_senders (Comes face l t.place) t.batch.taken (λ a.
      all_left (Comes face l t.place) (from_place a t.batch.taken) (may.next a).0
      (subst (AllByRecursion (Comes face l t.place)) (sym (may.next a).1) (h.comes a t.place)))

  pub record WorldAfter (n : ℕ) (l : Log) (s : State (Snapshot S)) : Type 0 where
    pub log : Log
    pub on : Grows l log
    pub world : World n log s

  turn_good : (n : ℕ) (l : Log) (s : State (Snapshot S)) (t : Turn) → World n l s → MayTake m s t → WorldAfter n l (take_batch m s t)
  turn_good n l s t h may = record {
    log = o;
    on = after.on;
    world = record {
      places_are = h.places_are;
      stands = λ p less. stands p less (p == t.place) refl;
      comes = λ a b. all_append (Comes face o b) (without (b == t.place) (from_place a t.batch.taken) (s.waiting a b)) _ (left a b (b == t.place)) (posted_to a b (a == t.place) refl);
    };
  }
    where
      here : t.place < n
      here = subst (λ (x : ℕ). t.place < x) h.places_are may.place

      after : After face rules T l t.place l (batch_of rules (s.snapshot t.place) t.batch.taken)
      after = batch_good face rules T behaves l t.place l (s.snapshot t.place) t.batch.taken (batch_comes n l s t h may) (h.stands t.place here)

      o : Log
      o = after.log

      stands : (p : ℕ) → p < n → (b : Bool) → (p == t.place) ≡ b → Stands o p ((take_batch m s t).snapshot p)
      stands p less true q =
          rw q (subst (λ (x : ℕ). Stands o x (m.play (s.snapshot x) t.batch.taken).0) (sym (same_of p t.place q))
          (on_its_own l o t.place (batch_of rules (s.snapshot t.place) t.batch.taken).snapshot (batch_of rules (s.snapshot t.place) t.batch.taken).posts after.good))
      stands p less false q = rw q (still l o p (s.snapshot p) after.on (after.good.others p q) (h.stands p less))

      left : (a b : ℕ) (c : Bool) → AllByRecursion (Comes face o b) (without c (from_place a t.batch.taken) (s.waiting a b))
      left a b true = all_drop (Comes face o b) (length (from_place a t.batch.taken)) (s.waiting a b) (all_come face l o after.on b (s.waiting a b) (h.comes a b))
      left a b false = all_come face l o after.on b (s.waiting a b) (h.comes a b)

      posted_to : (a b : ℕ) (c : Bool) → (a == t.place) ≡ c → AllByRecursion (Comes face o b) (when c (to_place b (m.play (s.snapshot a) t.batch.taken).1))
      posted_to a b true q =
          subst (λ (x : ℕ). AllByRecursion (Comes face o b) (to_place b (m.play (s.snapshot x) t.batch.taken).1)) (sym (same_of a t.place q))
          (all_arrive_at o b (batch_of rules (s.snapshot t.place) t.batch.taken).posts after.good.posted)
      posted_to a b false q = tt

  notice_good : (n ticks : ℕ) (l : Log) (s : State (Snapshot S)) → World n l s → World n l (send_notice m ticks s)
  notice_good n ticks l s h = record {
    places_are = h.places_are;
    stands = h.stands;
    comes = λ a b. all_append (Comes face l b) (s.waiting a b) _ (h.comes a b) (told b ((outside == a) && (0 == b)));
  }
    where
      told : (b : ℕ) (c : Bool) → AllByRecursion (Comes face l b) (when c (next_notice m ticks s ∷ []))
      told b true = (tt, tt)
      told b false = tt

  -- ---- runs

  -- by a log that has grown from the one at first
  pub record Ran (ticks : ℕ) (l : Log) (s : State (Snapshot S)) (steps : List Step) : Type 0 where
    pub log : Log
    pub on : Grows l log
    pub taken : (p : ℕ) → AllByRecursion (Comes face log p) (joined (batches_of p steps))
    pub untaken : (a b : ℕ) → AllByRecursion (Comes face log b) ((run m ticks s steps).waiting a b)
    pub resolved : (p : ℕ) → AllByRecursion EndsTyped (run_resolves rules ticks p s steps)

  turn_typed : (n : ℕ) (l : Log) (s : State (Snapshot S)) (t : Turn) → World n l s → MayTake m s t → (p : ℕ) → AllByRecursion EndsTyped (step_resolves rules p s (Take t))
  turn_typed n l s t h may p = go (p == t.place) refl
    where
      here : t.place < n
      here = subst (λ (x : ℕ). t.place < x) h.places_are may.place

      go : (c : Bool) → (p == t.place) ≡ c → AllByRecursion EndsTyped (if c then batch_resolves rules (s.snapshot p) t.batch.taken else [])
      go true q =
          subst (λ (x : ℕ). AllByRecursion EndsTyped (batch_resolves rules (s.snapshot x) t.batch.taken)) (sym (same_of p t.place q))
          (batch_typed face rules T behaves l t.place l (s.snapshot t.place) t.batch.taken (batch_comes n l s t h may) (h.stands t.place here))
      go false q = tt

  run_good : (ticks n : ℕ) (steps : List Step) (l : Log) (s : State (Snapshot S)) → World n l s → IsRun m ticks s steps → Ran ticks l s steps
  run_good ticks n [] l s h runs = record {
    log = l;
    on = stays l;
    taken = λ p. tt;
    untaken = h.comes;
    resolved = λ p. tt;
  }
  run_good ticks n (Speak ∷ steps) l s h runs =
      let more = run_good ticks n steps l (send_notice m ticks s) (notice_good n ticks l s h) runs.1 in
      record { log = more.log; on = more.on; taken = more.taken; untaken = more.untaken; resolved = more.resolved }
  run_good ticks n (Take t ∷ steps) l s h runs =
      let next = turn_good n l s t h runs.0 in
      let more = run_good ticks n steps next.log (take_batch m s t) next.world runs.1 in
      let on = grows_on l next.log more.log next.on more.on in
      record {
        log = more.log;
        on = on;
        taken = λ p. go more.log p (p == t.place) refl (all_come face l more.log on t.place t.batch.taken (batch_comes n l s t h runs.0)) (more.taken p);
        untaken = more.untaken;
        resolved = λ p. all_append EndsTyped (step_resolves rules p s (Take t)) _ (turn_typed n l s t h runs.0 p) (more.resolved p);
      }
    where
      go : (o : Log) (p : ℕ) (c : Bool) → (p == t.place) ≡ c → AllByRecursion (Comes face o t.place) t.batch.taken → AllByRecursion (Comes face o p) (joined (batches_of p steps))
          → AllByRecursion (Comes face o p) (joined (batches_of p (Take t ∷ steps)))
      go o p true q here later =
          rw q (all_append (Comes face o p) t.batch.taken (joined (batches_of p steps))
          (subst (λ (x : ℕ). AllByRecursion (Comes face o x) t.batch.taken) (sym (same_of p t.place q)) here) later)
      go o p false q here later = rw q later

  -- ---- from the opening on

  abbrev pub empty : Log
  empty r = []

  pub runs_good : (ticks places : ℕ) (start : ℕ → Snapshot S) (steps : List Step) → ((p : ℕ) → p < places → Stands empty p (start p))
      → IsRun m ticks (opening_state places start) steps → Ran ticks empty (opening_state places start) steps
  runs_good ticks places start steps begins runs = run_good ticks places steps empty (opening_state places start) opening runs
    where
      waits : (b : ℕ) (c : Bool) → AllByRecursion (Comes face empty b) (when c (start_envelope ∷ []))
      waits b true = (tt, tt)
      waits b false = tt

      opening : World places empty (opening_state places start)
      opening = record { places_are = refl; stands = begins; comes = λ a b. waits b ((outside == a) && (0 == b)) }
