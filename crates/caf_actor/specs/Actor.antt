-- What an actor is seen as.
use Rattle.std.specs.Prelude.{◌≡◌, ℕ, ◌+◌, ◌<◌, ◌≤◌, min, Bool, false, List, [], Option}
use Rattle.std.specs.List.{AllByRecursion}
use Rattle.caf_types.specs.Limits.{places, latest_stamp}
use Rattle.caf_types.specs.ShapeTree.{ShapeTree}
use Rattle.caf_message.specs.Envelope.{EnvelopeFits}
use Rattle.caf_message.specs.Fits.{Fits}
use Rattle.caf_mailbox.specs.Caches.{CachedLists}
use Rattle.caf_response.specs.Delays.{PlainDelay}
use Rattle.caf_actor.specs.declared.snapshot.Snapshot.{Snapshot}
use Rattle.caf_actor.specs.declared.journal.TakenBatch.{TakenBatch}
use Rattle.caf_actor.specs.Rules.{Rules}
use Rattle.caf_actor.specs.Snapshot.{fresh}

pub record ActorState (S : Type 0) : Type 0 where
  pub snapshot : Snapshot S
  pub journal : List TakenBatch
  -- how many envelopes left the lists; it stops at 2^64 - 1
  pub handled : ℕ
  -- memory was wanted in a batch
  pub is_broken : Bool

-- nothing was taken yet
abbrev pub untried : {S : Type 0} → Snapshot S → ActorState S
untried s = record { snapshot = s; journal = []; handled = 0; is_broken = false }

-- an actor that isn't broken is at the place of its behaviour, whose value is one that occurs; and while its
-- journal is empty it stands where it started
pub record IsAtWork {S : Type 0} (occurs : S → Type 0) (rules : Rules S) (a : ActorState S) : Type 0 where
  pub own : rules.place a.snapshot.behavior ≡ a.snapshot.place
  pub place : a.snapshot.place < places
  pub valid : occurs a.snapshot.behavior
  pub stamp : a.snapshot.stamp ≤ latest_stamp
  pub untried : a.journal ≡ [] → a ≡ untried (fresh rules a.snapshot.has_begun a.snapshot.place a.snapshot.behavior a.snapshot.stamp)

abbrev pub IsActor : {S : Type 0} → (S → Type 0) → Rules S → ActorState S → Type 0
IsActor valid rules a = a.is_broken ≡ false → IsAtWork valid rules a

abbrev pub add_handled : ℕ → ℕ → ℕ
add_handled handled more = min (handled + more) 18446744073709551615

-- every content in the lists fits
pub record CachesFit (shape_of : ℕ → Option ShapeTree) (lists : CachedLists) : Type 0 where
  pub urgent : AllByRecursion (EnvelopeFits shape_of) lists.urgent
  pub normal : AllByRecursion (EnvelopeFits shape_of) lists.normal

-- every delayed content fits
abbrev pub DelaysFit : (ℕ → Option ShapeTree) → List PlainDelay → Type 0
DelaysFit shape_of ds = AllByRecursion (λ (d : PlainDelay). Fits shape_of d.content) ds
