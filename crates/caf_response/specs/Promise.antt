-- What is promised to a request, and what the promise is spent on.
use Rattle.std.specs.Prelude.{ℕ, true, List}
use Rattle.caf_types.specs.declared.notice.Mid.{Mid}
use Rattle.caf_types.specs.declared.notice.Priority.{Priority}
use Rattle.caf_message.specs.declared.envelope.Plain.{Plain}
use Rattle.caf_message.specs.Envelope.{plain_body}
use Rattle.caf_response.specs.Promised.{Promised}
use Rattle.caf_response.specs.declared.promise.Reply.{Reply}
use Rattle.caf_response.specs.declared.promise.Handoff.{Handoff}

-- ---- answers

pub record PlainReply : Type 0 where
  pub to : ℕ
  pub mid : Mid
  pub priority : Priority
  pub body : Plain

-- the number of the response to a request
abbrev pub response_mid : Mid → Mid
response_mid mid = record { requester = mid.requester; number = mid.number; response = true }

-- a value or an error goes to the requester, as the response, with the request's priority
abbrev pub reply_of : Promised → Plain → PlainReply
reply_of p body = record { to = p.mid.requester; mid = response_mid p.mid; priority = p.priority; body = body }

abbrev pub plain_reply : Reply → PlainReply
plain_reply r = record { to = r.to; mid = r.mid; priority = r.priority; body = plain_body r.body }

-- ---- delegations

pub record PlainHandoff : Type 0 where
  pub to : ℕ
  pub mid : Mid
  pub priority : Priority
  pub content : List ℕ

-- the request goes on to another place, with its content, mid and priority
abbrev pub handoff_of : Promised → ℕ → List ℕ → PlainHandoff
handoff_of p to content = record { to = to; mid = p.mid; priority = p.priority; content = content }

abbrev pub plain_handoff : Handoff → PlainHandoff
plain_handoff h = record { to = h.to; mid = h.mid; priority = h.priority; content = h.message.content }
