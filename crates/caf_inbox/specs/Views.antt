-- What a pass on the queue knows, and how each step changes it.
use Rattle.std.specs.Prelude.{◌≡◌, ℕ, List, [], ◌∷◌, ◌++◌}
use Rattle.caf_message.specs.declared.envelope.Taken.{Taken}
use Rattle.caf_inbox.specs.declared.view.View.{View}
use Rattle.caf_inbox.specs.declared.view.Role.{Role}
use Rattle.caf_inbox.specs.declared.view.Role.TheVariants.{Reading, Sending, LaneNoted, ReaderNoted, Spent}
use Rattle.caf_inbox.specs.Senders.{AreFrom}

-- a pass of this role and sender, with this log, that has met no note
abbrev pub view_of : Role → ℕ → List Taken → View
view_of role s log = record { role = role; sender = s; log = log; met = []; heard = []; senders = [] }

-- the reader of an inbox without lanes, and the lane of a sender
abbrev pub new_reader : View
new_reader = view_of Reading 0 []

abbrev pub new_lane : ℕ → View
new_lane s = view_of Sending s []

-- the reader, once a sender has a lane
abbrev pub with_lane : ℕ → View → View
with_lane s v = record v { senders = v.senders ++ s ∷ [] }

-- a lane after a push of the envelope, a reader after a pop of it
abbrev pub logged : View → Taken → View
logged v e = record v { log = v.log ++ e ∷ [] }

-- a reader after pops of these, all of senders that have a lane
abbrev pub HasTaken : View → View → List Taken → Type 0
HasTaken v w es = (w ≡ record v { log = v.log ++ es }) × AreFrom v.senders es

-- notes of a lane and of a reader, each a copy of what its maker knows now
abbrev pub lane_note : View → View
lane_note v = view_of LaneNoted v.sender v.log

abbrev pub reader_note : View → View
reader_note v = view_of ReaderNoted 0 v.log

-- a reader that has met the note of a lane, and a lane that has met the note of the reader
abbrev pub with_lane_note : View → View → View
with_lane_note v n = record v { met = v.met ++ record { sender = n.sender; pushed = n.log } ∷ [] }

abbrev pub with_reader_note : View → View → View
with_reader_note v n = record v { heard = v.heard ++ n.log ∷ [] }

-- what is left of a note that was met
abbrev pub spent : View
spent = view_of Spent 0 []
