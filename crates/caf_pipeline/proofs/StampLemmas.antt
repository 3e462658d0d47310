-- Stamps are no more than turns: each turn adds at most one to the greatest of them.
use Rattle.std.proofs.Common.{◌≡◌, ◌≢◌, ℕ, zero, suc, ◌+◌, ◌≤◌, ◌<◌, ◌==◌, ◌&&◌, max, Bool, true, false, List, [], ◌∷◌, length, cond, refl, sym, subst, arith}
use Rattle.std.specs.Prelude.{if◌then◌else◌}
use Rattle.std.specs.List.{AllByRecursion}
use Rattle.std.proofs.lemmas.List.{length-append}
use Rattle.caf_mailbox.proofs.NextLemmas.{all_append}
use Rattle.caf_message.specs.Envelope.{outside, start_envelope}
use Rattle.caf_message.specs.declared.envelope.Taken.{Taken}
use Rattle.caf_actor.specs.Drain.{greatest_stamp}
use Rattle.caf_actor.specs.Merge.{batches_in, steps_of}
use Rattle.caf_actor.specs.PlainPost.{PlainPost}
use Rattle.caf_actor.specs.Record.{Machine, machine_of, from_place, to_place, joined, latest, when, holds_notice, sum_below}
use Rattle.caf_actor.specs.Rules.{Rules}
use Rattle.caf_actor.specs.Run.{State, Step, Take, Speak, Turn, MayTake, IsRun, run, opening_state, take_batch, send_notice, next_notice, without}
use Rattle.caf_actor.specs.declared.snapshot.Snapshot.{Snapshot}
use Rattle.caf_carriers.proofs.CountLemmas.{sum_less, sum_plus, sum_one, same_number}
use Rattle.caf_record.proofs.BatchLemmas.{all_to}
use Rattle.caf_record.proofs.ListLemmas.{all_left, all_drop, all_map}
use Rattle.caf_record.proofs.StampedLemmas.{has_stamps}
use Rattle.caf_pipeline.proofs.HeavyLemmas.{all_senders}

abbrev pub AreAtMost : ℕ → List Taken → Type 0
AreAtMost n es = AllByRecursion (λ (e : Taken). e.stamp ≤ n) es

more_low : (n m : ℕ) (es : List Taken) → n ≤ m → AreAtMost n es → AreAtMost m es
more_low n m es le all = all_map (λ (e : Taken). e.stamp ≤ n) (λ (e : Taken). e.stamp ≤ m) (λ e low. omega (arith, le, low)) es all

greatest_low : (n stamp : ℕ) (es : List Taken) → stamp ≤ n → AreAtMost n es → greatest_stamp stamp es ≤ n
greatest_low n stamp [] low all = low
greatest_low n stamp (e ∷ es) low all = let first = all.0 in greatest_low n (max stamp e.stamp) es (omega (arith, low, first)) all.1

-- ---- a run

module _ {S : Type 0} (rules : Rules S) (places : ℕ) where
  abbrev m : Machine (Snapshot S)
  m = machine_of rules

  pub latest_low : (n k : ℕ) (at : ℕ → Snapshot S) → ((p : ℕ) → p < k → m.stamp_of (at p) ≤ n) → latest m k at ≤ n
  latest_low n zero at low = omega arith
  latest_low n (suc k) at low =
      let rest = latest_low n k at (λ p less. low p (omega (arith, less))) in
      let last = low k (omega arith) in
      omega (arith, rest, last)

  -- all stamps are at most so much
  pub record AreLow (n : ℕ) (s : State (Snapshot S)) : Type 0 where
    pub same : s.places ≡ places
    pub at : (p : ℕ) → p < places → m.stamp_of (s.snapshot p) ≤ n
    pub waiting : (a b : ℕ) → AreAtMost n (s.waiting a b)

  take_low : (n : ℕ) (s : State (Snapshot S)) (t : Turn) → MayTake m s t → AreLow n s → AreLow (n + 1) (take_batch m s t)
  take_low n s t may low = record { same = low.same; at = λ p less. at_place p (p == t.place) less; waiting = λ a b. all_append (λ (e : Taken). e.stamp ≤ n + 1) _ _ (left a b (b == t.place)) (news a b (a == t.place) refl) }
    where
      here : t.place < places
      here = subst (λ (k : ℕ). t.place < k) low.same may.place

      batch_low : AreAtMost n t.batch.taken
      batch_low = all_senders (λ (e : Taken). e.stamp ≤ n) t.batch.taken (λ a.
          let next = may.next a in
          all_left (λ (e : Taken). e.stamp ≤ n) (from_place a t.batch.taken) next.0 (subst (AreAtMost n) (sym next.1) (low.waiting a t.place)))

      due_low : (p : ℕ) → p < places → m.due (s.snapshot p) t.batch.taken ≤ n + 1
      due_low p less = let most = greatest_low n (s.snapshot p).stamp t.batch.taken (low.at p less) batch_low in omega (arith, most)

      at_place : (p : ℕ) (b : Bool) → p < places → m.stamp_of (if b then (m.play (s.snapshot p) t.batch.taken).0 else s.snapshot p) ≤ n + 1
      at_place p true less =
          let due = due_low p less in
          let same = (has_stamps rules).after (s.snapshot p) t.batch.taken in
          omega (arith, due, same)
      at_place p false less = let old = low.at p less in omega (arith, old)

      left : (a b : ℕ) (c : Bool) → AreAtMost (n + 1) (without c (from_place a t.batch.taken) (s.waiting a b))
      left a b true = more_low n (n + 1) _ (omega arith) (all_drop (λ (e : Taken). e.stamp ≤ n) (length (from_place a t.batch.taken)) (s.waiting a b) (low.waiting a b))
      left a b false = more_low n (n + 1) (s.waiting a b) (omega arith) (low.waiting a b)

      news : (a b : ℕ) (c : Bool) → (a == t.place) ≡ c → AreAtMost (n + 1) (when c (to_place b (m.play (s.snapshot a) t.batch.taken).1))
      news a b true q =
          let due = due_low a (subst (λ (x : ℕ). x < places) (sym (same_number a t.place q)) here) in
          let posts = (m.play (s.snapshot a) t.batch.taken).1 in
          all_to (λ (e : Taken). e.stamp ≤ n + 1) b posts
          (all_map (λ (x : PlainPost). x.envelope.stamp ≡ m.due (s.snapshot a) t.batch.taken) (λ (x : PlainPost). x.envelope.stamp ≤ n + 1) (λ x is. omega (arith, due, is)) posts ((has_stamps rules).posts (s.snapshot a) t.batch.taken))
      news a b false q = tt

  speak_low : (ticks n : ℕ) (s : State (Snapshot S)) → AreLow n s → AreLow n (send_notice m ticks s)
  speak_low ticks n s low = record { same = low.same; at = low.at; waiting = λ a b. all_append (λ (e : Taken). e.stamp ≤ n) (s.waiting a b) _ (low.waiting a b) (notice ((outside == a) && (0 == b))) }
    where
      most : (next_notice m ticks s).stamp ≤ n
      most = latest_low n s.places s.snapshot (λ p less. low.at p (subst (λ (k : ℕ). p < k) low.same less))

      notice : (c : Bool) → AreAtMost n (when c (next_notice m ticks s ∷ []))
      notice true = (most, tt)
      notice false = tt

  pub run_low : (ticks n : ℕ) (s : State (Snapshot S)) (ts : List Turn) → IsRun m ticks s (steps_of ts) → AreLow n s → AreLow (n + length ts) (run m ticks s (steps_of ts))
  run_low ticks n s [] is low = record { same = low.same; at = λ p less. (let old = low.at p less in omega (arith, old)); waiting = λ a b. more_low n (n + 0) (s.waiting a b) (omega arith) (low.waiting a b) }
  run_low ticks n s (t ∷ ts) is low = go ((0 == t.place) && holds_notice t.batch) refl (λ x h at_first. run_low ticks (n + 1) x ts h at_first)
    where
      Goes : Type 0
      Goes = (x : State (Snapshot S)) → IsRun m ticks x (steps_of ts) → AreLow (n + 1) x → AreLow (n + 1 + length ts) (run m ticks x (steps_of ts))

      takes : Goes → (x : State (Snapshot S)) → IsRun m ticks x (Take t ∷ steps_of ts) → AreLow n x → AreLow (n + length (t ∷ ts)) (run m ticks x (Take t ∷ steps_of ts))
      takes later x h at_first =
          let same : n + 1 + length ts ≡ n + length (t ∷ ts) = omega arith in
          subst (λ (k : ℕ). AreLow k (run m ticks x (Take t ∷ steps_of ts))) same (later (take_batch m x t) h.1 (take_low n x t h.0 at_first))

      go : (c : Bool) → ((0 == t.place) && holds_notice t.batch) ≡ c → Goes → AreLow (n + length (t ∷ ts)) (run m ticks s (steps_of (t ∷ ts)))
      go true q later =
          let steps : steps_of (t ∷ ts) ≡ Speak ∷ Take t ∷ steps_of ts = rw q refl in
          let h = subst (IsRun m ticks s) steps is in
          subst (λ (ss : List Step). AreLow (n + length (t ∷ ts)) (run m ticks s ss)) (sym steps) (takes later (send_notice m ticks s) h.1 (speak_low ticks n s low))
      go false q later =
          let steps : steps_of (t ∷ ts) ≡ Take t ∷ steps_of ts = rw q refl in
          let h = subst (IsRun m ticks s) steps is in
          subst (λ (ss : List Step). AreLow (n + length (t ∷ ts)) (run m ticks s ss)) (sym steps) (takes later s h low)

  pub first_low : (start : ℕ → Snapshot S) → ((p : ℕ) → p < places → m.stamp_of (start p) ≡ 0) → AreLow 0 (opening_state places start)
  first_low start fresh = record { same = refl; at = λ p less. (let none = fresh p less in omega (arith, none)); waiting = λ a b. only ((outside == a) && (0 == b)) }
    where
      only : (c : Bool) → AreAtMost 0 (when c (start_envelope ∷ []))
      only true = (omega arith, tt)
      only false = tt

-- ---- turns are no more than envelopes

-- a turn of a place, with an envelope
pub record IsFilled (places : ℕ) (t : Turn) : Type 0 where
  pub place : t.place < places
  pub filled : t.batch.taken ≢ []

pub all_filled : {S : Type 0} (x : Machine S) (places ticks : ℕ) (s : State S) (ts : List Turn) → s.places ≡ places → IsRun x ticks s (steps_of ts) → AllByRecursion (IsFilled places) ts
all_filled x places ticks s [] same is = tt
all_filled {S} x places ticks s (t ∷ ts) same is = go ((0 == t.place) && holds_notice t.batch) refl (λ y e h. all_filled x places ticks y ts e h)
  where
    Goes : Type 0
    Goes = (y : State S) → y.places ≡ places → IsRun x ticks y (steps_of ts) → AllByRecursion (IsFilled places) ts

    takes : Goes → (y : State S) → y.places ≡ places → IsRun x ticks y (Take t ∷ steps_of ts) → AllByRecursion (IsFilled places) (t ∷ ts)
    takes later y same h = (record { place = subst (λ (k : ℕ). t.place < k) same h.0.place; filled = h.0.filled }, later (take_batch x y t) same h.1)

    go : (c : Bool) → ((0 == t.place) && holds_notice t.batch) ≡ c → Goes → AllByRecursion (IsFilled places) (t ∷ ts)
    go true q later =
        let steps : steps_of (t ∷ ts) ≡ Speak ∷ Take t ∷ steps_of ts = rw q refl in
        let h = subst (IsRun x ticks s) steps is in
        takes later (send_notice x ticks s) same h.1
    go false q later =
        let steps : steps_of (t ∷ ts) ≡ Take t ∷ steps_of ts = rw q refl in
        takes later s same (subst (IsRun x ticks s) steps is)

pub turns_few : (places : ℕ) (ts : List Turn) → AllByRecursion (IsFilled places) ts → length ts ≤ sum_below places (λ p. length (joined (batches_in p ts)))
turns_few places [] all = omega arith
turns_few places (t ∷ ts) all =
    let rest = turns_few places ts all.1 in
    let one = sum_one places t.place 1 all.0.place in
    let parts = sum_plus places (λ p. cond (p == t.place) 1 0) (λ p. length (joined (batches_in p ts))) in
    let each = sum_less places (λ p. cond (p == t.place) 1 0 + length (joined (batches_in p ts))) (λ p. length (joined (batches_in p (t ∷ ts)))) (λ p less. at p (p == t.place) refl) in
    omega (arith, rest, one, parts, each)
  where
    some : (es : List Taken) → es ≢ [] → 1 ≤ length es
    some [] other = absurd (other refl)
    some (e ∷ es) other = omega arith

    at : (p : ℕ) (c : Bool) → (p == t.place) ≡ c → cond (p == t.place) 1 0 + length (joined (batches_in p ts)) ≤ length (joined (batches_in p (t ∷ ts)))
    at p true q =
        let first = some t.batch.taken all.0.filled in
        let both = length-append t.batch.taken (joined (batches_in p ts)) in
        rw q (omega (arith, first, both))
    at p false q = rw q (omega arith)
