-- One actor without its lists, numbers and stamps, and what it sends without numbers and stamps.
use Rattle.std.specs.Prelude.{ℕ, nat_le, if◌then◌else◌, List, [], ◌∷◌, ◌++◌, map, Option, Some, None}
use Rattle.caf_types.specs.Limits.{last_count}
use Rattle.caf_types.specs.declared.notice.Mid.{Mid}
use Rattle.caf_types.specs.declared.notice.Notice.TheVariants as notice
use Rattle.caf_types.specs.declared.notice.Priority.{Priority}
use Rattle.caf_types.specs.declared.notice.Priority.TheVariants.{Urgent}
use Rattle.caf_types.specs.declared.sec.Sec.{Sec}
use Rattle.caf_types.specs.declared.shape.TypeId.{TypeId}
use Rattle.caf_message.specs.Envelope.{no_request}
use Rattle.caf_message.specs.declared.envelope.Plain.{Plain}
use Rattle.caf_message.specs.declared.envelope.Plain.TheVariants as «plain»
use Rattle.caf_response.specs.declared.pending.Mode.{Mode}
use Rattle.caf_response.specs.Pending.{WaitingRequests, issued}
use Rattle.caf_response.specs.Promised.{Promised}
use Rattle.caf_response.specs.Promise.{reply_of}
use Rattle.caf_response.specs.Holds.{take_hold, with_hold}
use Rattle.caf_actor.specs.declared.origin.Origin.{Origin}
use Rattle.caf_actor.specs.declared.snapshot.Snapshot.{Snapshot}
use Rattle.caf_actor.specs.Answering.{is_asked, promised_to}
use Rattle.caf_actor.specs.PlainOutput.{PlainOutput, Tell, TellMany, Request, Exit, Deliver, Break}
use Rattle.caf_actor.specs.PlainPost.{PlainPost}
use Rattle.caf_actor.specs.PlainReaction.{PlainAnswer, Value, Error, Delegate, Hold, Nothing}
use Rattle.caf_actor.specs.Sending.{mid_of}
use Rattle.caf_actor.specs.Snapshot.{Handled}

pub record Outline (S : Type 0) : Type 0 where
  pub place : ℕ
  pub behavior : S
  pub pending : WaitingRequests
  pub holds : List Promised

-- an envelope without number and stamp, and where it goes
pub record Bare : Type 0 where
  pub sender : ℕ
  pub to : ℕ
  pub mid : Mid
  pub priority : Priority
  pub body : Plain

-- an outline, and what was sent on the way to it
pub record Outlined (S : Type 0) : Type 0 where
  pub outline : Outline S
  pub sent : List Bare

-- ---- of an actor

abbrev pub outline_of : {S : Type 0} → Snapshot S → Outline S
outline_of s = record { place = s.place; behavior = s.behavior; pending = s.pending; holds = s.holds }

abbrev pub bare : PlainPost → Bare
bare p = record { sender = p.envelope.sender; to = p.to; mid = p.envelope.mid; priority = p.envelope.priority; body = p.envelope.body }

abbrev pub outlined : {S : Type 0} → Handled S → Outlined S
outlined t = record { outline = outline_of t.snapshot; sent = map bare t.posts }

-- ---- sending

abbrev pub with_outline : {S : Type 0} → Outlined S → Outline S → Outlined S
with_outline o outline = record o { outline = outline }

abbrev pub send : {S : Type 0} → Outlined S → ℕ → Mid → Priority → Plain → Outlined S
send o to mid priority body = record o { sent = o.sent ++ record { sender = o.outline.place; to = to; mid = mid; priority = priority; body = body } ∷ [] }

abbrev pub tell : {S : Type 0} → Outlined S → ℕ → Priority → List ℕ → Outlined S
tell o to priority words = send o to (no_request o.outline.place) priority («plain».Content words)

abbrev pub tell_many : {S : Type 0} → Outlined S → List ℕ → Priority → List ℕ → Outlined S
tell_many o [] priority words = o
tell_many o (to ∷ places) priority words = tell_many (tell o to priority words) places priority words

abbrev pub reply : {S : Type 0} → Outlined S → Promised → Plain → Outlined S
reply o p body = let r = reply_of p body in send o r.to r.mid r.priority r.body

-- the last number of a request is 2^63
abbrev pub request : {S : Type 0} → Outlined S → ℕ → Priority → Mode → ℕ → List TypeId → List ℕ → Outlined S
request o to priority mode tag expected words =
    if nat_le o.outline.pending.next last_count
    then send (with_outline o (record o.outline { pending = issued o.outline.pending mode tag expected })) to (mid_of o.outline.place o.outline.pending.next) priority («plain».Content words)
    else o

abbrev pub settle_hold : {S : Type 0} → Outlined S → Option (Promised × List Promised) → Plain → Outlined S
settle_hold o None body = o
settle_hold o (Some found) body = reply (with_outline o (record o.outline { holds = found.1 })) found.0 body

abbrev pub settle : {S : Type 0} → Outlined S → ℕ → ℕ → Plain → Outlined S
settle o requester number body = settle_hold o (take_hold o.outline.holds requester number) body

-- ---- outputs, of those that a steady actor has

abbrev pub send_output : {S : Type 0} → Outlined S → PlainOutput → Outlined S
send_output o (Tell to priority words) = tell o to priority words
send_output o (TellMany places priority words) = tell_many o places priority words
send_output o (Request to priority mode tag expected words) = request o to priority mode tag expected words
send_output o (Exit to reason) = send o to (no_request o.outline.place) Urgent («plain».System (notice.Exit o.outline.place reason))
send_output o (Deliver requester number words) = settle o requester number («plain».Content words)
send_output o (Break requester number sec) = settle o requester number («plain».Failure sec)
send_output o _ = o

abbrev pub send_outputs : {S : Type 0} → Outlined S → List PlainOutput → Outlined S
send_outputs o [] = o
send_outputs o (one ∷ more) = send_outputs (send_output o one) more

-- ---- answers

abbrev pub refuse : {S : Type 0} → Outlined S → Origin → Sec → Outlined S
refuse o origin sec = if is_asked origin then reply o (promised_to origin) («plain».Failure sec) else o

abbrev pub answer_request : {S : Type 0} → Outlined S → Promised → List ℕ → PlainAnswer → Outlined S
answer_request o p words (Value value) = reply o p («plain».Content value)
answer_request o p words (Error sec) = reply o p («plain».Failure sec)
answer_request o p words (Delegate to) = send o to p.mid p.priority («plain».Content words)
answer_request o p words Hold = with_outline o (record o.outline { holds = with_hold o.outline.holds p })
answer_request o p words Nothing = o

abbrev pub answer_tell : {S : Type 0} → Outlined S → Origin → List ℕ → PlainAnswer → Outlined S
answer_tell o origin words (Delegate to) = tell o to origin.priority words
answer_tell o origin words _ = o

abbrev pub answer : {S : Type 0} → Outlined S → Origin → List ℕ → PlainAnswer → Outlined S
answer o origin words given =
    if is_asked origin then answer_request o (promised_to origin) words given else answer_tell o origin words given
