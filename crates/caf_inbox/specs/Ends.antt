-- What a contract sees of a reader, of a lane and of their notes.
use Rattle.std.specs.Prelude.{ℕ, ◌+◌, ◌-◌, ◌^◌, ◌≤◌, min, Bool, false, List, []}
use Rattle.caf_message.specs.declared.envelope.Taken.{Taken}
use Rattle.caf_inbox.specs.declared.view.Note.{Note}

-- which inbox it is
abbrev pub InboxId : Type 0
InboxId = ℕ × ℕ

pub record ReaderSeen : Type 0 where
  pub inbox : InboxId
  -- the senders that have a lane
  pub senders : List ℕ
  -- all that it took, in order
  pub taken : List Taken
  -- the notes of lanes that it has met
  pub met : List Note
  -- how many of its pops found nothing
  pub empties : ℕ
  pub is_broken : Bool

pub record LaneSeen : Type 0 where
  pub inbox : InboxId
  pub sender : ℕ
  -- all that it pushed, in order
  pub pushed : List Taken
  -- the notes of the reader that it has met, each as what had been taken
  pub met : List (List Taken)

pub record LaneNoteSeen : Type 0 where
  pub inbox : InboxId
  pub sender : ℕ
  pub pushed : List Taken

pub record ReaderNoteSeen : Type 0 where
  pub inbox : InboxId
  pub taken : List Taken

abbrev pub fresh_reader : InboxId → List ℕ → ReaderSeen
fresh_reader id senders = record { inbox = id; senders = senders; taken = []; met = []; empties = 0; is_broken = false }

abbrev pub fresh_lane : InboxId → ℕ → LaneSeen
fresh_lane id s = record { inbox = id; sender = s; pushed = []; met = [] }

-- a count that stops at 2^64 - 1 rose, or stands there
abbrev pub Rose : ℕ → ℕ → Type 0
Rose before now = min (before + 1) (2 ^ 64 - 1) ≤ now
