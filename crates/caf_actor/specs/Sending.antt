-- How one actor sends: each envelope has the stamp of the batch, and the next number of its receiver.
use Rattle.std.specs.Prelude.{ℕ, ◌==◌, nat_le, Bool, false, if◌then◌else◌, List, [], ◌∷◌, ◌++◌, Option, Some, None}
use Rattle.caf_types.specs.Limits.{last_count}
use Rattle.caf_types.specs.declared.notice.Mid.{Mid}
use Rattle.caf_types.specs.declared.notice.Notice.{Notice}
use Rattle.caf_types.specs.declared.notice.Notice.TheVariants as notice
use Rattle.caf_types.specs.declared.notice.Priority.{Priority}
use Rattle.caf_types.specs.declared.notice.Priority.TheVariants.{Urgent}
use Rattle.caf_types.specs.declared.shape.TypeId.{TypeId}
use Rattle.caf_message.specs.declared.envelope.Plain.{Plain}
use Rattle.caf_message.specs.declared.envelope.Plain.TheVariants as «plain»
use Rattle.caf_message.specs.Envelope.{no_request}
use Rattle.caf_response.specs.declared.pending.Mode.{Mode}
use Rattle.caf_response.specs.Pending.{issued, issued_within}
use Rattle.caf_response.specs.Delays.{delayed}
use Rattle.caf_response.specs.Promised.{Promised}
use Rattle.caf_response.specs.Promise.{PlainReply, reply_of}
use Rattle.caf_response.specs.Holds.{take_hold}
use Rattle.caf_observe.specs.Observers.{with_link, without_link}
use Rattle.caf_observe.specs.Places.{has_place, without_place}
use Rattle.caf_actor.specs.declared.snapshot.Snapshot.{Snapshot}
use Rattle.caf_actor.specs.Numbers.{number_for, counted}
use Rattle.caf_actor.specs.PlainOutput.{PlainOutput, Tell, TellMany, Request, Exit, Link, Unlink, Watch, Unwatch, Deliver, Break, Spawn, Tick, Delay, Within}
use Rattle.caf_actor.specs.PlainPost.{PlainPost}
use Rattle.caf_actor.specs.Clock.{due_after}
use Rattle.caf_actor.specs.Snapshot.{Handled, so_far, with_snapshot}

-- ---- one envelope

abbrev pub posting : {S : Type 0} → Snapshot S → ℕ → Mid → Priority → Plain → PlainPost
posting s to mid priority body = record {
  to = to;
  envelope = record { sender = s.place; seq = number_for s.numbers to; mid = mid; priority = priority; stamp = s.stamp; body = body };
}

-- one envelope more, behind those posted before
abbrev pub post : {S : Type 0} → Handled S → ℕ → Mid → Priority → Plain → Handled S
post t to mid priority body =
    so_far (record t.snapshot { numbers = counted t.snapshot.numbers to }) (t.posts ++ posting t.snapshot to mid priority body ∷ [])

-- content that is no request
abbrev pub tell : {S : Type 0} → Handled S → ℕ → Priority → List ℕ → Handled S
tell t to priority words = post t to (no_request t.snapshot.place) priority («plain».Content words)

abbrev pub tell_many : {S : Type 0} → Handled S → List ℕ → Priority → List ℕ → Handled S
tell_many t [] priority words = t
tell_many t (to ∷ places) priority words = tell_many (tell t to priority words) places priority words

-- a system notice, which is urgent
abbrev pub notify : {S : Type 0} → Handled S → ℕ → Notice → Handled S
notify t to what = post t to (no_request t.snapshot.place) Urgent («plain».System what)

-- the answer to a request
abbrev pub send_reply : {S : Type 0} → Handled S → PlainReply → Handled S
send_reply t r = post t r.to r.mid r.priority r.body

abbrev pub reply : {S : Type 0} → Handled S → Promised → Plain → Handled S
reply t p body = send_reply t (reply_of p body)

-- ---- requests

-- the last number is 2^63
abbrev pub may_issue : {S : Type 0} → Snapshot S → Bool
may_issue s = nat_le s.pending.next last_count

abbrev pub issue : {S : Type 0} → Snapshot S → Mode → ℕ → List TypeId → Snapshot S
issue s mode tag expected = record s { pending = issued s.pending mode tag expected }

abbrev pub mid_of : ℕ → ℕ → Mid
mid_of requester number = record { requester = requester; number = number; response = false }

abbrev pub request_mid : {S : Type 0} → Snapshot S → Mid
request_mid s = mid_of s.place s.pending.next

-- the request waits for its response; without a number left it is dropped
abbrev pub request : {S : Type 0} → Handled S → ℕ → Priority → Mode → ℕ → List TypeId → List ℕ → Handled S
request t to priority mode tag expected words =
    if may_issue t.snapshot then post (with_snapshot t (issue t.snapshot mode tag expected)) to (request_mid t.snapshot) priority («plain».Content words) else t

abbrev pub issue_within : {S : Type 0} → Snapshot S → ℕ → Mode → ℕ → List TypeId → Snapshot S
issue_within s ticks mode tag expected = record s { pending = issued_within s.pending mode tag expected (due_after s.clock ticks) }

-- the same, and after so many ticks it is too late for the response
abbrev pub request_within : {S : Type 0} → Handled S → ℕ → ℕ → Priority → Mode → ℕ → List TypeId → List ℕ → Handled S
request_within t ticks to priority mode tag expected words =
    if may_issue t.snapshot then post (with_snapshot t (issue_within t.snapshot ticks mode tag expected)) to (request_mid t.snapshot) priority («plain».Content words) else t

-- ---- holds

-- the hold ends with its answer; where there is none, nothing is sent
abbrev pub settle_hold : {S : Type 0} → Handled S → Option (Promised × List Promised) → Plain → Handled S
settle_hold t None body = t
settle_hold t (Some found) body = reply (with_snapshot t (record t.snapshot { holds = found.1 })) found.0 body

abbrev pub settle : {S : Type 0} → Handled S → ℕ → ℕ → Plain → Handled S
settle t requester number body = settle_hold t (take_hold t.snapshot.holds requester number) body

-- ---- links and watches

-- a link to the own place is dropped
abbrev pub link : {S : Type 0} → Handled S → ℕ → Handled S
link t to =
    if to == t.snapshot.place then t
    else notify (with_snapshot t (record t.snapshot { observers = with_link t.snapshot.observers to })) to (notice.Link t.snapshot.place)

abbrev pub unlink : {S : Type 0} → Handled S → ℕ → Handled S
unlink t to = notify (with_snapshot t (record t.snapshot { observers = without_link t.snapshot.observers to })) to (notice.Unlink t.snapshot.place)

-- a watch of the own place is dropped
abbrev pub watch : {S : Type 0} → Handled S → ℕ → Handled S
watch t to = if to == t.snapshot.place then t else notify t to (notice.Watch t.snapshot.place)

abbrev pub unwatch : {S : Type 0} → Handled S → ℕ → Handled S
unwatch t to = notify t to (notice.Unwatch t.snapshot.place)

-- ---- children and ticks

-- a child that wasn't started is told to begin; any other is left alone
abbrev pub spawn : {S : Type 0} → Handled S → ℕ → Handled S
spawn t place =
    if has_place t.snapshot.unstarted place
    then notify (with_snapshot t (record t.snapshot { unstarted = without_place t.snapshot.unstarted place })) place (notice.Begin t.snapshot.place)
    else t

abbrev pub send_tick : {S : Type 0} → Handled S → ℕ → Handled S
send_tick t to = notify t to (notice.Tick t.snapshot.place)

-- nothing is posted before so many ticks have come
abbrev pub with_delayed : {S : Type 0} → Snapshot S → ℕ → ℕ → Priority → List ℕ → Snapshot S
with_delayed s ticks to priority words = record s { delays = delayed s.delays (due_after s.clock ticks) to priority words }

abbrev pub delay : {S : Type 0} → Handled S → ℕ → ℕ → Priority → List ℕ → Handled S
delay t ticks to priority words = with_snapshot t (with_delayed t.snapshot ticks to priority words)

-- ---- outputs

abbrev pub send_output : {S : Type 0} → Handled S → PlainOutput → Handled S
send_output t (Tell to priority words) = tell t to priority words
send_output t (TellMany places priority words) = tell_many t places priority words
send_output t (Request to priority mode tag expected words) = request t to priority mode tag expected words
send_output t (Exit to reason) = notify t to (notice.Exit t.snapshot.place reason)
send_output t (Link to) = link t to
send_output t (Unlink to) = unlink t to
send_output t (Watch to) = watch t to
send_output t (Unwatch to) = unwatch t to
send_output t (Deliver requester number words) = settle t requester number («plain».Content words)
send_output t (Break requester number sec) = settle t requester number («plain».Failure sec)
send_output t (Spawn place) = spawn t place
send_output t (Tick to) = send_tick t to
send_output t (Delay ticks to priority words) = delay t ticks to priority words
send_output t (Within ticks to priority mode tag expected words) = request_within t ticks to priority mode tag expected words

abbrev pub send_outputs : {S : Type 0} → Handled S → List PlainOutput → Handled S
send_outputs t [] = t
send_outputs t (o ∷ os) = send_outputs (send_output t o) os
