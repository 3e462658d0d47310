-- What the outside says to place 0: Start, then so many ticks, then Stop.
use Rattle.std.specs.Prelude.{ℕ, ◌+◌, ◌==◌, ◌&&◌, nat_lt, Bool, true, false, if◌then◌else◌, List}
use Rattle.std.specs.List.{list_any}
use Rattle.caf_types.specs.declared.notice.Notice.{Notice}
use Rattle.caf_types.specs.declared.notice.Notice.TheVariants as notice
use Rattle.caf_message.specs.declared.envelope.Plain.{Plain}
use Rattle.caf_message.specs.declared.envelope.Plain.TheVariants as «plain»
use Rattle.caf_message.specs.declared.envelope.Taken.{Taken}
use Rattle.caf_message.specs.Envelope.{outside, from_outside}

-- ---- its notices

abbrev pub tick : Notice
tick = notice.Tick outside

-- number 0 is Start, the ticks have the numbers from 1 on, and Stop comes after the last of them
abbrev pub notice_at : ℕ → ℕ → Notice
notice_at ticks n = if n == 0 then notice.Start else if n == ticks + 1 then notice.Stop else tick

-- its envelope with this number
abbrev pub outside_envelope : ℕ → ℕ → ℕ → Taken
outside_envelope ticks n stamp = from_outside n stamp (notice_at ticks n)

-- ---- which envelope is one of them

-- a tick or Stop of the outside: of its envelopes, Start alone has the number 0
abbrev pub is_rest_notice : Taken → Bool
is_rest_notice e = (e.sender == outside) && nat_lt 0 e.seq

abbrev pub is_stop_body : Plain → Bool
is_stop_body («plain».System notice.Stop) = true
is_stop_body _ = false

-- Stop of the outside
abbrev pub is_stop : Taken → Bool
is_stop e = (e.sender == outside) && is_stop_body e.body

abbrev pub holds_stop : List Taken → Bool
holds_stop taken = list_any is_stop taken
