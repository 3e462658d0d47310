-- An alarm answers a request after as many ticks as it asks for.
use Rattle.std.specs.Prelude.{ℕ, ◌+◌, ◌&&◌, nat_lt, nat_le, Bool, List, [], ◌∷◌, if◌then◌else◌, Option, Some, None}
use Rattle.caf_types.specs.declared.notice.Priority.TheVariants.{Normal}
use Rattle.caf_words.specs.Datum.{Data, no_data, more, a_unit, an_unsigned}
use Rattle.caf_message.specs.Lists.{pick}
use Rattle.caf_signature.specs.declared.interface.Signature.{Signature}
use Rattle.caf_actor.specs.Answering.{is_asked}
use Rattle.caf_actor.specs.declared.origin.Origin.{Origin}
use Rattle.caf_actor.specs.PlainInput.{PlainInput, Content}
use Rattle.caf_actor.specs.PlainOutput as output
use Rattle.caf_actor.specs.PlainReaction.{PlainAnswer, PlainReaction}
use Rattle.caf_actor.specs.PlainReaction as answer
use Rattle.caf_kinds.specs.Asking.{Types, atom, of_unit, of_unsigned, takes, has, asked, content, unsigned_content}
use Rattle.caf_kinds.specs.Reacting.{Reacted, quiet, answers, sends, done, failed}
use Rattle.caf_kinds.specs.Alarms.{Awaited, numbered, has_number}
use Rattle.caf_kinds.specs.declared.alarm.AlarmClock.{AlarmClock}

abbrev pub setting : Types
setting = atom 224 of_unsigned

abbrev pub ringing : Types
ringing = atom 225 of_unsigned

abbrev pub interface : List Signature
interface = takes setting of_unsigned ∷ takes ringing of_unit ∷ []

-- ---- its reactions

-- [ring, k]
abbrev pub ring_content : ℕ → List ℕ
ring_content k = content ringing (more a_unit (more (an_unsigned k) no_data))

-- so many ticks can be waited for, and there is a number left
abbrev pub can_set : AlarmClock → ℕ → Bool
can_set s ticks = nat_le ticks 4294967295 && nat_lt s.alarms.last 18446744073709551615

-- a request gets the next number k and is held, and [ring, k] will come
abbrev pub sets : AlarmClock → Origin → ℕ → Reacted AlarmClock
sets s origin ticks = (
  record s { alarms = numbered s.alarms origin },
  sends (output.Delay ticks s.identity.place Normal (ring_content (s.alarms.last + 1)) ∷ []) answer.Hold,
)

-- an [alarm, n] that is no request does nothing
abbrev pub alarms_after : AlarmClock → Origin → ℕ → Reacted AlarmClock
alarms_after s origin ticks = if is_asked origin then (if can_set s ticks then sets s origin ticks else (s, answers failed)) else (s, quiet)

abbrev pub alarms : AlarmClock → Origin → Option Data → Reacted AlarmClock
alarms s origin (Some (more a_unit (more (an_unsigned ticks) no_data))) = alarms_after s origin ticks
alarms s origin _ = (s, answers failed)

abbrev pub delivered : Awaited → PlainAnswer → PlainReaction
delivered a answered = sends (output.Deliver a.requester a.number (unsigned_content a.given) ∷ []) answered

-- the request of that number is delivered it
abbrev pub delivers : AlarmClock → Option (Awaited × List Awaited) → Reacted AlarmClock
delivers s (Some found) = (record s { alarms = record s.alarms { held = found.1 } }, delivered found.0 done)
delivers s None = (s, answers done)

abbrev pub rings : AlarmClock → Option Data → Reacted AlarmClock
rings s (Some (more a_unit (more (an_unsigned k) no_data))) = delivers s (pick (has_number k) s.alarms.held)
rings s _ = (s, answers failed)

abbrev pub given : AlarmClock → Origin → List ℕ → Reacted AlarmClock
given s origin words =
    if has setting words then alarms s origin (asked setting words)
    else if has ringing words then rings s (asked ringing words)
    else (s, answers failed)

abbrev pub reacted : AlarmClock → PlainInput → Reacted AlarmClock
reacted s (Content origin words) = given s origin words
reacted s _ = (s, quiet)
