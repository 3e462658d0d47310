-- In a run in which no content and no tick waits, none comes to wait, and each place stays idle.
use Rattle.std.proofs.Common.{◌≡◌, ℕ, ◌<◌, ◌==◌, ◌&&◌, Bool, true, false, List, [], ◌∷◌, length, refl, sym, subst}
use Rattle.std.specs.List.{AllByRecursion}
use Rattle.caf_message.specs.declared.envelope.Taken.{Taken}
use Rattle.caf_mailbox.proofs.NextLemmas.{AllCached, all_append}
use Rattle.caf_response.specs.Pending.{WaitingRequests}
use Rattle.caf_record.proofs.ListLemmas.{all_left, all_drop}
use Rattle.caf_carriers.proofs.CountLemmas.{same_number, self_same}
use Rattle.caf_actor.specs.Drain.{batch_of}
use Rattle.caf_actor.specs.Merge.{steps_of}
use Rattle.caf_actor.specs.PlainPost.{PlainPost}
use Rattle.caf_actor.specs.Record.{Machine, machine_of, holds_notice, from_place, to_place, when}
use Rattle.caf_actor.specs.Rules.{Rules}
use Rattle.caf_actor.specs.Run.{State, Step, Turn, Take, MayTake, IsRun, run, take_batch, without}
use Rattle.caf_actor.specs.declared.snapshot.Snapshot.{Snapshot}
use Rattle.caf_pipeline.proofs.LateLemmas.{IsLate, IsLateBody, StaysIdle, IsWindingDown, batch_late}

-- what holds of the envelopes of each sender holds of all
pub all_senders : (P : Taken → Type 0) (es : List Taken) → ((x : ℕ) → AllByRecursion P (from_place x es)) → AllByRecursion P es
all_senders P [] h = tt
all_senders P (e ∷ es) h =
    (let k : AllByRecursion P (e ∷ from_place e.sender es) = rw (self_same e.sender) at (h e.sender) in k.0, all_senders P es (λ x. go x (e.sender == x) refl))
  where
    go : (x : ℕ) (b : Bool) → (e.sender == x) ≡ b → AllByRecursion P (from_place x es)
    go x true q = let k : AllByRecursion P (e ∷ from_place x es) = rw q at (h x) in k.1
    go x false q = rw q at (h x)

all_posted : (b : ℕ) (ps : List PlainPost) → AllByRecursion (λ p. IsLateBody p.envelope.body) ps → AllByRecursion IsLate (to_place b ps)
all_posted b [] h = tt
all_posted b (p ∷ ps) h = go (p.to == b) refl (all_posted b ps h.1)
  where
    go : (c : Bool) → (p.to == b) ≡ c → AllByRecursion IsLate (to_place b ps) → AllByRecursion IsLate (to_place b (p ∷ ps))
    go true q k = rw q (h.0, k)
    go false q k = rw q k

module _ {S : Type 0} (rules : Rules S) (Idle : ℕ → S → WaitingRequests → Type 0) (stays : (p : ℕ) → StaysIdle rules (Idle p)) where
  abbrev m : Machine (Snapshot S)
  m = machine_of rules

  pub record AreWindingDown (n : ℕ) (s : State (Snapshot S)) : Type 0 where
    pub places_are : s.places ≡ n
    pub idle : (p : ℕ) → p < n → Idle p (s.snapshot p).behavior (s.snapshot p).pending
    pub cached : (p : ℕ) → p < n → AllCached IsLate (s.snapshot p).caches
    pub waits : (a b : ℕ) → AllByRecursion IsLate (s.waiting a b)

  pub take_winds : (n : ℕ) (s : State (Snapshot S)) (t : Turn) → AreWindingDown n s → MayTake m s t → AreWindingDown n (take_batch m s t)
  take_winds n s t h may = record {
    places_are = h.places_are;
    idle = λ p low. idle_at p low (p == t.place) refl;
    cached = λ p low. cached_at p low (p == t.place) refl;
    waits = λ a b. all_append IsLate (without (b == t.place) (from_place a t.batch.taken) (s.waiting a b)) _ (left a b (b == t.place)) (posted_to a b (a == t.place) refl);
  }
    where
      here : t.place < n
      here = subst (λ (x : ℕ). t.place < x) h.places_are may.place

      batch : AllByRecursion IsLate t.batch.taken
      batch = all_senders IsLate t.batch.taken (λ a.
          all_left IsLate (from_place a t.batch.taken) (may.next a).0 (subst (AllByRecursion IsLate) (sym (may.next a).1) (h.waits a t.place)))

      done : IsWindingDown rules (Idle t.place) (batch_of rules (s.snapshot t.place) t.batch.taken)
      done = batch_late rules (Idle t.place) (stays t.place) (s.snapshot t.place) t.batch.taken (h.idle t.place here) (h.cached t.place here) batch

      idle_at : (p : ℕ) → p < n → (b : Bool) → (p == t.place) ≡ b → Idle p ((take_batch m s t).snapshot p).behavior ((take_batch m s t).snapshot p).pending
      idle_at p low true q =
          rw q (subst (λ (x : ℕ). Idle x (m.play (s.snapshot x) t.batch.taken).0.behavior (m.play (s.snapshot x) t.batch.taken).0.pending) (sym (same_number p t.place q)) done.idle)
      idle_at p low false q = rw q (h.idle p low)

      cached_at : (p : ℕ) → p < n → (b : Bool) → (p == t.place) ≡ b → AllCached IsLate ((take_batch m s t).snapshot p).caches
      cached_at p low true q = rw q (subst (λ (x : ℕ). AllCached IsLate (m.play (s.snapshot x) t.batch.taken).0.caches) (sym (same_number p t.place q)) done.cached)
      cached_at p low false q = rw q (h.cached p low)

      left : (a b : ℕ) (c : Bool) → AllByRecursion IsLate (without c (from_place a t.batch.taken) (s.waiting a b))
      left a b true = all_drop IsLate (length (from_place a t.batch.taken)) (s.waiting a b) (h.waits a b)
      left a b false = h.waits a b

      posted_to : (a b : ℕ) (c : Bool) → (a == t.place) ≡ c → AllByRecursion IsLate (when c (to_place b (m.play (s.snapshot a) t.batch.taken).1))
      posted_to a b true q =
          subst (λ (x : ℕ). AllByRecursion IsLate (to_place b (m.play (s.snapshot x) t.batch.taken).1)) (sym (same_number a t.place q))
          (all_posted b (batch_of rules (s.snapshot t.place) t.batch.taken).posts done.posts)
      posted_to a b false q = tt

  pub all_wind : (ticks n : ℕ) (ts : List Turn) (s : State (Snapshot S)) → AreWindingDown n s → AllByRecursion (λ t. ((0 == t.place) && holds_notice t.batch) ≡ false) ts → IsRun m ticks s (steps_of ts)
      → AreWindingDown n (run m ticks s (steps_of ts))
  all_wind ticks n [] s h quiet runs = h
  all_wind ticks n (t ∷ ts) s h quiet runs =
      let same : steps_of (t ∷ ts) ≡ Take t ∷ steps_of ts = rw quiet.0 refl in
      let steps : IsRun m ticks s (Take t ∷ steps_of ts) = subst (λ (st : List Step). IsRun m ticks s st) same runs in
      subst (λ (st : List Step). AreWindingDown n (run m ticks s st)) (sym same) (all_wind ticks n ts (take_batch m s t) (take_winds n s t h steps.0) quiet.1 steps.1)
