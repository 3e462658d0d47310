-- An actor that isn't broken stays at work over a batch.
use Rattle.std.proofs.Common.{◌≡◌, ℕ, suc, ◌+◌, ◌≤◌, ◌<◌, ◌∙◌, sym, ap, subst, max, false, List, [], ◌∷◌, ◌++◌, length, refl, arith, length-append}
use Rattle.std.specs.List.{AllByRecursion}
use Rattle.caf_types.specs.Limits.{places, latest_stamp}
use Rattle.caf_message.specs.declared.envelope.Taken.{Taken}
use Rattle.caf_actor.specs.declared.journal.TakenBatch.{TakenBatch}
use Rattle.caf_actor.specs.declared.snapshot.Snapshot.{Snapshot}
use Rattle.caf_actor.specs.Rules.{Rules, StaysValid, StaysSameActor, SendsToPeers}
use Rattle.caf_actor.specs.Actor.{ActorState, IsAtWork}
use Rattle.caf_actor.specs.Drain.{greatest_stamp, stamp_due, batch_of}
use Rattle.caf_actor.proofs.StampLemmas.{place_stays, stamp_after}
use Rattle.caf_actor.proofs.SoundLemmas.{work_batch}

greatest_below : (n stamp : ℕ) (batch : List Taken) → stamp < n → AllByRecursion (λ (e : Taken). e.stamp < n) batch → greatest_stamp stamp batch < n
greatest_below n stamp [] h all = h
greatest_below n stamp (e ∷ es) h all = let first = all.0 in greatest_below n (max stamp e.stamp) es (omega arith) all.1

not_untried : {A : Type 0} (bs : List A) (b : A) → bs ++ b ∷ [] ≡ [] → ⊥
not_untried bs b e = let n : length (bs ++ b ∷ []) ≡ 0 = ap length e in let m = length-append bs (b ∷ []) in omega arith

-- what it is after a batch
abbrev pub after_batch : {S : Type 0} → Rules S → ActorState S → List Taken → TakenBatch → ℕ → ActorState S
after_batch rules a batch b handled = record { snapshot = (batch_of rules a.snapshot batch).snapshot; journal = a.journal ++ b ∷ []; handled = handled; is_broken = false }

pub still_at_work : {S : Type 0} (valid : S → Type 0) (rules : Rules S) → StaysValid valid rules → StaysSameActor valid rules → SendsToPeers valid rules
    → (a : ActorState S) (batch : List Taken) (b : TakenBatch) (handled : ℕ) → IsAtWork valid rules a → a.snapshot.stamp < latest_stamp
    → AllByRecursion (λ (e : Taken). e.stamp < latest_stamp) batch → IsAtWork valid rules (after_batch rules a batch b handled)
still_at_work valid rules stays same peers a batch b handled h low lows =
    let sound = work_batch valid rules stays same peers a.snapshot batch h.valid h.own in
    let place = place_stays rules a.snapshot batch in
    let stamp = stamp_after rules a.snapshot batch in
    let below = greatest_below latest_stamp a.snapshot.stamp batch low lows in
    let due : stamp_due a.snapshot.stamp batch ≤ latest_stamp = omega arith in
    record {
      own = sound.own;
      place = subst (λ (p : ℕ). p < places) (sym place) h.place;
      valid = sound.valid;
      stamp = subst (λ (n : ℕ). n ≤ latest_stamp) (sym stamp) due;
      untried = λ e. absurd (not_untried a.journal b e);
    }
