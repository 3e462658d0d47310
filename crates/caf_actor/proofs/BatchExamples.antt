-- Single batches of small actors, computed from the definitions.
use Rattle.std.proofs.Common.{◌≡◌, List, [], ◌∷◌, Some, map, refl}
use Rattle.caf_types.specs.declared.notice.Notice.TheVariants as notice
use Rattle.caf_types.specs.declared.notice.Priority.TheVariants.{Urgent, Normal}
use Rattle.caf_types.specs.declared.reason.Reason.TheVariants as reason
use Rattle.caf_types.specs.declared.sec.Sec.TheVariants as sec
use Rattle.caf_message.specs.declared.envelope.Taken.{Taken}
use Rattle.caf_message.specs.declared.envelope.Plain.TheVariants as «plain»
use Rattle.caf_message.specs.Envelope.{no_request, start_envelope}
use Rattle.caf_response.specs.Promised.{Promised}
use Rattle.caf_response.specs.declared.pending.Mode.{Mode}
use Rattle.caf_response.specs.declared.pending.Mode.TheVariants.{Awaited, Multiplexed}
use Rattle.caf_actor.specs.declared.snapshot.Snapshot.{Snapshot}
use Rattle.caf_actor.specs.PlainInput.{Start, Response, Failed}
use Rattle.caf_actor.specs.PlainPost.{PlainPost}
use Rattle.caf_actor.specs.Drain.{batch_of}
use Rattle.caf_actor.proofs.ExampleActors.{text, wake, number, Echo, Sleeper, Asker, Keeper, Forwarder, Quitter, Player, rules, new_player, asked, told, answered, noticed, replied, requested, notified, stamped}

-- the snapshot after a batch, and what it posts
abbrev next : Snapshot Player → List Taken → Snapshot Player
next s batch = (batch_of rules s batch).snapshot

abbrev posts : Snapshot Player → List Taken → List PlainPost
posts s batch = (batch_of rules s batch).posts

-- ---- the order of handling

-- an echo answers the urgent request of a batch first
pub urgent_first : posts (new_player Echo 1) (asked 0 1 Normal (text 97) ∷ asked 1 2 Urgent (text 98) ∷ [])
    ≡ replied 0 2 Urgent («plain».Content (text 98)) ∷ replied 1 1 Normal («plain».Content (text 97)) ∷ []
urgent_first = refl

-- but in two batches it answers in the order taken
pub earlier_batch_first : posts (new_player Echo 1) (asked 0 1 Normal (text 97) ∷ []) ≡ replied 0 1 Normal («plain».Content (text 97)) ∷ []
earlier_batch_first = refl

pub later_batch_second : posts (next (new_player Echo 1) (asked 0 1 Normal (text 97) ∷ [])) (asked 1 2 Urgent (text 98) ∷ [])
    ≡ stamped 3 (replied 1 2 Urgent («plain».Content (text 98))) ∷ []
later_batch_second = refl

-- an echo asleep answers what it kept after what wakes it
pub woken_first : posts (new_player Sleeper 1) (asked 0 1 Normal (text 97) ∷ asked 1 2 Normal wake ∷ [])
    ≡ replied 0 2 Normal («plain».Content wake) ∷ replied 1 1 Normal («plain».Content (text 97)) ∷ []
woken_first = refl

-- and until then nothing
pub kept_asleep : posts (new_player Sleeper 1) (asked 0 1 Normal (text 97) ∷ []) ≡ []
kept_asleep = refl

pub cached_asleep : (next (new_player Sleeper 1) (asked 0 1 Normal (text 97) ∷ [])).caches.normal ≡ asked 0 1 Normal (text 97) ∷ []
cached_asleep = refl

-- ---- content that is no input

-- a request is answered by an error, with its number and its priority
pub refuses_request : posts (new_player Echo 1) (asked 0 5 Urgent (number 3) ∷ []) ≡ replied 0 5 Urgent («plain».Failure sec.UnexpectedMessage) ∷ []
refuses_request = refl

-- other content is dropped
pub drops_content : posts (new_player Echo 1) (told 0 (number 3) ∷ []) ≡ []
drops_content = refl

pub hears_no_other_content : (next (new_player Echo 1) (told 0 (number 3) ∷ [])).behavior.heard ≡ []
hears_no_other_content = refl

-- ---- delegations

-- a request goes on with its content, number and priority, and the requester isn't answered
pub delegates_request : posts (new_player Forwarder 1) (asked 0 5 Urgent (text 97) ∷ []) ≡ record {
  to = 2;
  envelope = record { sender = 1; seq = 0; mid = (asked 0 5 Urgent (text 97)).mid; priority = Urgent; stamp = 2; body = «plain».Content (text 97) };
} ∷ []
delegates_request = refl

-- other content goes on from the delegating place
pub delegates_content : posts (new_player Forwarder 1) (told 0 (text 97) ∷ []) ≡ record {
  to = 2;
  envelope = record { sender = 1; seq = 0; mid = no_request 1; priority = Normal; stamp = 2; body = «plain».Content (text 97) };
} ∷ []
delegates_content = refl

-- ---- responses

-- after Start the texts 97 and 98 are requested, with the numbers 1 and 2 and the tags 7 and 8
abbrev asking : Mode → Snapshot Player
asking mode = next (new_player (Asker mode) 0) (start_envelope ∷ [])

pub requests_in_order : posts (new_player (Asker Awaited) 0) (start_envelope ∷ []) ≡ requested 0 1 (text 97) ∷ requested 1 2 (text 98) ∷ []
requests_in_order = refl

-- while the last request is awaited, the response to the first one stays cached
pub waits_for_the_top : (next (asking Awaited) (answered 0 1 («plain».Content (text 97)) ∷ [])).caches.normal ≡ answered 0 1 («plain».Content (text 97)) ∷ []
waits_for_the_top = refl

pub not_heard_yet : (next (asking Awaited) (answered 0 1 («plain».Content (text 97)) ∷ [])).behavior.heard ≡ Start ∷ []
not_heard_yet = refl

-- and is handled after the response to the last one
pub top_first : (next (next (asking Awaited) (answered 0 1 («plain».Content (text 97)) ∷ [])) (answered 1 2 («plain».Content (text 98)) ∷ [])).behavior.heard
    ≡ Start ∷ Response 8 (text 98) ∷ Response 7 (text 97) ∷ []
top_first = refl

-- multiplexed responses are handled as they come
pub as_they_come : (next (asking Multiplexed) (answered 0 1 («plain».Content (text 97)) ∷ answered 1 2 («plain».Content (text 98)) ∷ [])).behavior.heard
    ≡ Start ∷ Response 7 (text 97) ∷ Response 8 (text 98) ∷ []
as_they_come = refl

-- a second response to one request is dropped
pub second_dropped : (next (asking Multiplexed) (answered 0 1 («plain».Content (text 97)) ∷ answered 1 1 («plain».Content (text 98)) ∷ [])).behavior.heard
    ≡ Start ∷ Response 7 (text 97) ∷ []
second_dropped = refl

-- one of other types than were declared is an error
pub other_types : (next (asking Multiplexed) (answered 0 1 («plain».Content (number 3)) ∷ [])).behavior.heard ≡ Start ∷ Failed 7 sec.UnexpectedResponse ∷ []
other_types = refl

-- an error is handed on
pub error_given : (next (asking Multiplexed) (answered 0 1 («plain».Failure sec.BrokenPromise) ∷ [])).behavior.heard ≡ Start ∷ Failed 7 sec.BrokenPromise ∷ []
error_given = refl

-- ---- holds

-- holds stand in order of number, whatever was taken first
pub holds_in_order : map (λ (p : Promised). p.mid.number) (next (new_player Keeper 1) (asked 0 6 Normal (text 97) ∷ asked 1 5 Normal (text 98) ∷ [])).holds ≡ 5 ∷ 6 ∷ []
holds_in_order = refl

-- ---- exit notices

pub quits_with_the_reason : (next (new_player Echo 1) (noticed 2 0 (notice.Exit 2 reason.Failed) ∷ [])).quit ≡ Some reason.Failed
quits_with_the_reason = refl

-- the reason `normal` only ends the link
pub normal_ends_the_link : next (new_player Echo 1) (noticed 2 0 (notice.Link 2) ∷ noticed 2 1 (notice.Exit 2 reason.Normal) ∷ [])
    ≡ record (new_player Echo 1) { stamp = 2 }
normal_ends_the_link = refl

-- place 0 drops exit notices
pub place_0_stays : next (asking Awaited) (noticed 1 0 (notice.Exit 1 reason.Kill) ∷ []) ≡ record (asking Awaited) { stamp = 2 }
place_0_stays = refl

-- ---- quitting

-- a broken promise, the cached request, an exit notice to each link, and a down notice to the monitor
pub quits_in_order : posts (new_player Quitter 1)
    (noticed 3 0 (notice.Link 3) ∷ noticed 2 0 (notice.Link 2) ∷ noticed 4 0 (notice.Watch 4) ∷ asked 0 1 Normal (text 97) ∷ asked 1 2 Normal (text 98) ∷ [])
    ≡ replied 0 1 Normal («plain».Failure sec.BrokenPromise)
    ∷ replied 1 2 Normal («plain».Failure sec.RequestReceiverDown)
    ∷ notified 2 0 (notice.Exit 1 reason.Failed)
    ∷ notified 3 0 (notice.Exit 1 reason.Failed)
    ∷ notified 4 0 (notice.Down 1 reason.Failed)
    ∷ []
quits_in_order = refl

-- a quit actor answers a request, a link notice and a watch notice, and drops the rest
pub shell_answers : posts (next (new_player Echo 1) (noticed 2 0 (notice.Exit 2 reason.Failed) ∷ []))
    (asked 0 1 Urgent (text 97) ∷ noticed 3 0 (notice.Link 3) ∷ noticed 4 0 (notice.Watch 4)
    ∷ noticed 3 1 (notice.Unlink 3) ∷ noticed 2 1 (notice.Exit 2 reason.Kill) ∷ noticed 2 2 (notice.Down 2 reason.Kill)
    ∷ told 1 (text 98) ∷ answered 0 1 («plain».Content (text 98)) ∷ [])
    ≡ stamped 3 (replied 0 1 Urgent («plain».Failure sec.RequestReceiverDown))
    ∷ stamped 3 (notified 3 0 (notice.Exit 1 reason.Failed))
    ∷ stamped 3 (notified 4 0 (notice.Down 1 reason.Failed))
    ∷ []
shell_answers = refl

-- its behaviour hears nothing of it
pub shell_is_deaf : (next (next (new_player Echo 1) (noticed 2 0 (notice.Exit 2 reason.Failed) ∷ [])) (asked 0 1 Urgent (text 97) ∷ noticed 2 2 (notice.Down 2 reason.Kill) ∷ [])).behavior.heard ≡ []
shell_is_deaf = refl
