-- The inbox rule: what ties the queue, the reader, the lanes and the notes.
use Rattle.std.specs.Prelude.{◌≡◌, ℕ, List, ◌++◌, map, Contains}
use mathlib.Core.Option.{some}
use lib.ListN.{get_elem?}
use Rattle.caf_message.specs.Envelope.{plain_envelope}
use Rattle.caf_message.specs.declared.envelope.Envelope.{Envelope}
use Rattle.caf_message.specs.declared.envelope.Taken.{Taken}
use Rattle.caf_inbox.specs.declared.view.View.{View}
use Rattle.caf_inbox.specs.declared.view.Role.{Role}
use Rattle.caf_inbox.specs.declared.view.Role.TheVariants.{Reading, Sending, LaneNoted, ReaderNoted, Spent}
use Rattle.caf_inbox.specs.Senders.{from_sender, IsPrefix, AreFrom, AreWithin, AreBefore}

-- What holds of the pass at a place and of its view, by its role. `reader` is the place of the reader, `lane` gives the
-- place of a sender's lane, `taken` is what the reader took, and `all` that and what the queue holds.
module _ (reader : ℕ) (lane : ℕ → ℕ) (senders : List ℕ) (taken all : List Taken) (place : ℕ) (v : View) where
  abbrev pub Knows : Role → Type 0
  -- the reader knows what it took, and the notes that it has met are prefixes of what was pushed
  Knows Reading = (place ≡ reader) × (v.log ≡ taken) × (v.senders ≡ senders) × AreWithin all v.met
  -- what a lane pushed was taken or is held, and the notes that it has met are prefixes of what was taken
  Knows Sending = (place ≡ lane v.sender) × Contains senders v.sender × (v.log ≡ from_sender v.sender all) × AreBefore taken v.heard
  -- a note is a prefix of what its lane has pushed by now, or of what the reader has taken by now
  Knows LaneNoted = IsPrefix v.log (from_sender v.sender all)
  Knows ReaderNoted = IsPrefix v.log taken
  Knows Spent = Unit {0}

pub record InboxRule (held : List Envelope) (views : List View) : Type 0 where
  pub reader : ℕ
  pub lane : ℕ → ℕ
  pub senders : List ℕ
  pub taken : List Taken
  -- what was taken or is held came from lanes
  pub from_lanes : AreFrom senders (taken ++ map plain_envelope held)
  pub each : (place : ℕ) (v : View) → get_elem? views place ≡ some v
      → Knows reader lane senders taken (taken ++ map plain_envelope held) place v v.role
