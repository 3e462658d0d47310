-- Where responses are: at the requester, or on the way to it.
use Rattle.std.specs.Prelude.{◌≡◌, ℕ, true}
use Rattle.caf_types.specs.declared.notice.Mid.{Mid}
use Rattle.caf_message.specs.declared.envelope.Plain.{Plain}
use Rattle.caf_message.specs.declared.envelope.Taken.{Taken}
use Rattle.caf_message.specs.Envelope.{is_response_body}
use Rattle.caf_actor.specs.PlainPost.{PlainPost}

-- a response with this mid and body belongs to the place
abbrev pub BelongsTo : ℕ → Mid → Plain → Type 0
BelongsTo place mid body = is_response_body mid.response body ≡ true → mid.requester ≡ place

-- an envelope at a place: a response is that of the place's own request
abbrev pub IsHome : ℕ → Taken → Type 0
IsHome place e = BelongsTo place e.mid e.body

-- a post: a response goes to the place whose request it answers
abbrev pub GoesHome : PlainPost → Type 0
GoesHome p = BelongsTo p.to p.envelope.mid p.envelope.body
