-- How content is answered.
use Rattle.std.specs.Prelude.{ℕ, nat_lt, Bool, true, false, if◌then◌else◌, List, [], Option, Some, None}
use Rattle.caf_types.specs.declared.sec.Sec.{Sec}
use Rattle.caf_steps.specs.declared.reference.Reference.{Reference}
use Rattle.caf_message.specs.declared.envelope.Taken.{Taken}
use Rattle.caf_message.specs.declared.envelope.Plain.TheVariants as «plain»
use Rattle.caf_response.specs.Promised.{Promised}
use Rattle.caf_response.specs.Promise.{PlainHandoff, handoff_of}
use Rattle.caf_response.specs.Holds.{with_hold}
use Rattle.caf_actor.specs.declared.origin.Origin.{Origin}
use Rattle.caf_actor.specs.declared.snapshot.Snapshot.{Snapshot}
use Rattle.caf_actor.specs.PlainReaction.{PlainAnswer, Value, Error, Delegate, Hold, Nothing}
use Rattle.caf_actor.specs.Snapshot.{Handled, with_snapshot}
use Rattle.caf_actor.specs.Sending.{post, tell, reply}

abbrev pub origin_of : Taken → Origin
origin_of e = record { sender = e.sender; mid = e.mid; priority = e.priority }

-- content with a number above 0 is a request
abbrev pub is_asked : Origin → Bool
is_asked origin = nat_lt 0 origin.mid.number

abbrev pub promised_to : Origin → Promised
promised_to origin = record { mid = origin.mid; priority = origin.priority }

-- a request is answered by the error, and content that is none is dropped
abbrev pub refuse : {S : Type 0} → Handled S → Origin → Sec → Handled S
refuse t origin sec = if is_asked origin then reply t (promised_to origin) («plain».Failure sec) else t

-- ---- the answer of a behaviour

-- the content goes on to another place
abbrev pub is_delegation : PlainAnswer → Bool
is_delegation (Delegate to) = true
is_delegation _ = false

-- the content of a reference that was kept for a delegation
abbrev pub kept_content : Option Reference → List ℕ
kept_content None = []
kept_content (Some r) = r.content

abbrev pub send_handoff : {S : Type 0} → Handled S → PlainHandoff → Handled S
send_handoff t h = post t h.to h.mid h.priority («plain».Content h.content)

abbrev pub with_held : {S : Type 0} → Snapshot S → Promised → Snapshot S
with_held s p = record s { holds = with_hold s.holds p }

-- a request: by a value, an error, a delegation or a hold
abbrev pub answer_request : {S : Type 0} → Handled S → Promised → List ℕ → PlainAnswer → Handled S
answer_request t p words (Value value) = reply t p («plain».Content value)
answer_request t p words (Error sec) = reply t p («plain».Failure sec)
answer_request t p words (Delegate to) = send_handoff t (handoff_of p to words)
answer_request t p words Hold = with_snapshot t (with_held t.snapshot p)
answer_request t p words Nothing = t

-- content that is no request: a delegation sends it on, and any other answer is dropped
abbrev pub answer_tell : {S : Type 0} → Handled S → Origin → List ℕ → PlainAnswer → Handled S
answer_tell t origin words (Delegate to) = tell t to origin.priority words
answer_tell t origin words _ = t

abbrev pub answer : {S : Type 0} → Handled S → Origin → List ℕ → PlainAnswer → Handled S
answer t origin words given =
    if is_asked origin then answer_request t (promised_to origin) words given else answer_tell t origin words given
