-- An actor with the ends of inboxes that it uses, and how it goes on.
use Rattle.std.specs.Prelude.{◌≡◌, ◌≢◌, ℕ, false, List, [], ◌++◌, length, slice_get, Some}
use Rattle.std.specs.List.{AllByRecursion}
use Rattle.caf_message.specs.declared.envelope.Taken.{Taken}
use Rattle.caf_message.specs.Entries.{TableEntries, entry_shape}
use Rattle.caf_actor.specs.declared.journal.TakenBatch.{TakenBatch}
use Rattle.caf_actor.specs.declared.snapshot.Snapshot.{Snapshot}
use Rattle.caf_actor.specs.Actor.{ActorState, CachesFit, DelaysFit}
use Rattle.caf_actor.specs.Record.{machine_of, joined, after, sent, AreStamped}
use Rattle.caf_actor.specs.Rules.{Rules}
use Rattle.caf_inbox.specs.Ends.{ReaderSeen, LaneSeen}
use Rattle.caf_inbox.specs.Senders.{AreFrom}
use Rattle.caf_driver.specs.Driver.{HasCounted}

pub record StationSeen (S : Type 0) : Type 0 where
  pub actor : ActorState S
  -- of its inbox
  pub reader : ReaderSeen
  -- by the place that each leads to
  pub lanes : List LaneSeen
  -- what was taken from the inbox and can't be taken by the actor
  pub held : List Taken

-- all lanes push for one sender
abbrev pub AreLanesOf : ℕ → List LaneSeen → Type 0
AreLanesOf sender lanes = (b : ℕ) (l : LaneSeen) → slice_get lanes b ≡ Some l → l.sender ≡ sender

-- the actor isn't broken, its contents fit, what was taken from the inbox is its journal and what is held back, and
-- the lanes are its own
pub record IsStation {S : Type 0} (entries : TableEntries) (s : StationSeen S) : Type 0 where
  pub whole : s.actor.is_broken ≡ false
  pub caches : CachesFit (entry_shape entries) s.actor.snapshot.caches
  pub delays : DelaysFit (entry_shape entries) s.actor.snapshot.delays
  pub taken : s.reader.taken ≡ joined s.actor.journal ++ s.held
  pub known : AreFrom s.reader.senders s.reader.taken
  pub lanes : AreLanesOf s.actor.snapshot.place s.lanes

-- the same lanes, on each of which what goes to its place was pushed behind what was pushed before
pub record HasSent (old : List LaneSeen) (to : ℕ → List Taken) (new : List LaneSeen) : Type 0 where
  pub count : length new ≡ length old
  pub lane : (b : ℕ) (l : LaneSeen) → slice_get old b ≡ Some l
      → (k : LaneSeen) × (slice_get new b ≡ Some k) × (k.inbox ≡ l.inbox) × (k.sender ≡ l.sender) × (k.pushed ≡ l.pushed ++ to b)

-- the actor took more batches, each with the stamp that it is due; its snapshot is where they lead, and what they
-- posted was pushed on the lanes
pub record GoesOn {S : Type 0} (rules : Rules S) (old new : StationSeen S) : Type 0 where
  pub more : List TakenBatch
  pub journal : new.actor.journal ≡ old.actor.journal ++ more
  pub filled : AllByRecursion (λ (b : TakenBatch). b.taken ≢ []) more
  pub stamped : AreStamped (machine_of rules) old.actor.snapshot more
  pub snapshot : new.actor.snapshot ≡ after (machine_of rules) old.actor.snapshot more
  pub lanes : HasSent old.lanes (sent (machine_of rules) old.actor.snapshot more) new.lanes
  -- the inbox and its senders stay
  pub inbox : new.reader.inbox ≡ old.reader.inbox
  pub senders : new.reader.senders ≡ old.reader.senders
  -- the envelopes that left the lists were counted
  pub counted : (first : Snapshot S) → HasCounted first (machine_of rules) old.actor → HasCounted first (machine_of rules) new.actor
