-- Messages that are sent later: by due count, then in order of adding.
use Rattle.std.specs.Prelude.{ℕ, nat_lt, nat_le, Bool, List, [], ◌∷◌, map, Option, Some, None, if◌then◌else◌}
use Rattle.caf_types.specs.declared.notice.Priority.{Priority}
use Rattle.caf_message.specs.declared.message.Message.{Message}
use Rattle.caf_response.specs.Lines.{put_in}
use Rattle.caf_response.specs.declared.delays.Delayed.{Delayed}

pub record PlainDelay : Type 0 where
  -- at this count of ticks
  pub due : ℕ
  pub to : ℕ
  pub priority : Priority
  pub content : List ℕ

abbrev pub plain_delay : Delayed → PlainDelay
plain_delay d = record { due = d.due; to = d.to; priority = d.priority; content = d.message.content }

abbrev pub plain_delays : List Delayed → List PlainDelay
plain_delays ds = map plain_delay ds

-- nothing counts but the due count
abbrev pub due_key : Delayed → ℕ × ℕ
due_key d = (d.due, 0)

abbrev pub no_delays : List PlainDelay
no_delays = []

abbrev pub is_due_before : PlainDelay → PlainDelay → Bool
is_due_before d e = nat_lt d.due e.due

-- one more, behind all that are due no later
abbrev pub delayed : List PlainDelay → ℕ → ℕ → Priority → List ℕ → List PlainDelay
delayed ds due to priority content = put_in is_due_before ds (record { due = due; to = to; priority = priority; content = content })

-- the first one, where it is due by now, and the others
abbrev pub next_delay : List PlainDelay → ℕ → Option (PlainDelay × List PlainDelay)
next_delay [] now = None
next_delay (d ∷ ds) now = if nat_le d.due now then Some (d, ds) else None

-- where a message goes, with which priority and content
abbrev pub Parcel : Type 0
Parcel = ℕ × Priority × List ℕ

-- one that was given out, and what is left
abbrev pub given_out : ℕ × Priority × Message → List PlainDelay → Parcel × List PlainDelay
given_out p rest = ((p.0, p.1, p.2.content), rest)

abbrev pub as_parcel : PlainDelay × List PlainDelay → Parcel × List PlainDelay
as_parcel taken = ((taken.0.to, taken.0.priority, taken.0.content), taken.1)
