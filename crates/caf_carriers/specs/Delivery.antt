-- What is said of all messages of a record, and of an actor that has quit.
use Rattle.std.specs.Prelude.{◌≡◌, ◌≢◌, ℕ, List, ◌++◌, None}
use Rattle.caf_actor.specs.declared.journal.TakenBatch.{TakenBatch}
use Rattle.caf_actor.specs.declared.snapshot.Snapshot.{Snapshot}
use Rattle.caf_actor.specs.Rules.{Rules}
use Rattle.caf_actor.specs.Snapshot.{Handled}
use Rattle.caf_actor.specs.Drain.{drain_for}
use Rattle.caf_actor.specs.Record.{Machine, Kept, machine_of, after, ends, taken_by, sent_by, IsComplete}

-- ---- messages

-- every message sent was taken once, as sent, in order per sender: what a place took from another, in the
-- order of taking, is what the other sent to it, in the order of sending
abbrev pub IsAllTaken : {S : Type 0} → Machine S → Kept S → Type 0
IsAllTaken m k = (a b : ℕ) → taken_by k a b ≡ sent_by m k a b

-- so it is in a complete record
abbrev pub CompleteIsAllTaken : {S : Type 0} → Machine S → Type 0
CompleteIsAllTaken {S} m = (ticks : ℕ) (k : Kept S) → IsComplete m ticks k → IsAllTaken m k

-- ---- quitting

-- the behaviour's value and the reason are still those with which the actor quit
pub record IsAsItQuit {S : Type 0} (old new : Snapshot S) : Type 0 where
  pub behavior : new.behavior ≡ old.behavior
  pub quit : new.quit ≡ old.quit

module _ {S : Type 0} (rules : Rules S) where
  -- in a batch: whatever else leaves the lists after the quit, none of it reaches the behaviour
  abbrev pub NoneInItsBatch : Type 0
  NoneInItsBatch = (t : Handled S) (n : ℕ) → t.snapshot.quit ≢ None → IsAsItQuit t.snapshot (drain_for rules n t).snapshot

  -- in a record: whatever batches a place takes after the one in which it quit, none of them reaches it
  abbrev pub NoneInLaterBatches : Type 0
  NoneInLaterBatches = (k : Kept (Snapshot S)) (p : ℕ) (early late : List TakenBatch) → k.journal p ≡ early ++ late
      → (after (machine_of rules) (k.start p) early).quit ≢ None → IsAsItQuit (after (machine_of rules) (k.start p) early) (ends (machine_of rules) k p)

  -- none was handled after quitting
  abbrev pub NoneHandledAfterQuitting : Type 0
  NoneHandledAfterQuitting = NoneInItsBatch × NoneInLaterBatches
