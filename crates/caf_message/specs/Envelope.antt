-- Envelopes in plain form, and their classes.
use Rattle.std.specs.Prelude.{◌≡◌, ℕ, ◌&&◌, not, nat_lt, Bool, true, false, List, Option, Some, None}
use Rattle.caf_types.specs.declared.notice.Mid.{Mid}
use Rattle.caf_types.specs.declared.notice.Notice.{Notice}
use Rattle.caf_types.specs.declared.notice.Notice.TheVariants as notice
use Rattle.caf_types.specs.declared.notice.Priority.TheVariants as priority
use Rattle.caf_message.specs.declared.envelope.Body.{Body}
use Rattle.caf_message.specs.declared.envelope.Body.TheVariants as body
use Rattle.caf_message.specs.declared.envelope.Envelope.{Envelope}
use Rattle.caf_message.specs.declared.envelope.Plain.{Plain}
use Rattle.caf_message.specs.declared.envelope.Plain.TheVariants as «plain»
use Rattle.caf_message.specs.declared.envelope.Taken.{Taken}
use Rattle.caf_message.specs.Fits.{Fits}
use Rattle.caf_message.specs.Message.{HasLooked}
use Rattle.caf_types.specs.Limits as limits
use Rattle.caf_types.specs.ShapeTree.{ShapeTree}

-- ---- plain form

abbrev pub plain_body : Body → Plain
plain_body (body.Content message) = «plain».Content message.content
plain_body (body.Failure sec) = «plain».Failure sec
plain_body (body.System what) = «plain».System what

abbrev pub plain_envelope : Envelope → Taken
plain_envelope e = record { sender = e.sender; seq = e.seq; mid = e.mid; priority = e.priority; stamp = e.stamp; body = plain_body e.body }

-- ---- looking at a content

-- a content was only looked at: its first words were read, in order, each once
abbrev pub BodyHasLooked : Body → Body → Type 0
BodyHasLooked (body.Content old) (body.Content new) = HasLooked old new
BodyHasLooked (body.Failure old) new = new ≡ body.Failure old
BodyHasLooked (body.System old) new = new ≡ body.System old
BodyHasLooked _ _ = ⊥

-- and all beside the body is as before
pub record EnvelopeHasLooked (old new : Envelope) : Type 0 where
  pub fields : new ≡ record old { body = new.body }
  pub body : BodyHasLooked old.body new.body

-- ---- classes

-- a system notice: its body is one
abbrev pub is_system_body : Plain → Bool
is_system_body («plain».System what) = true
is_system_body _ = false

abbrev pub is_system : Taken → Bool
is_system e = is_system_body e.body

-- else a response: its mid says so, or its body is an error
abbrev pub is_response_body : Bool → Plain → Bool
is_response_body response («plain».System what) = false
is_response_body response («plain».Failure sec) = true
is_response_body response («plain».Content words) = response

abbrev pub is_response : Taken → Bool
is_response e = is_response_body e.mid.response e.body

-- else content
abbrev pub is_content_body : Bool → Plain → Bool
is_content_body response («plain».Content words) = not response
is_content_body response _ = false

abbrev pub is_content : Taken → Bool
is_content e = is_content_body e.mid.response e.body

-- content with a number above 0 is a request
abbrev pub is_request : Taken → Bool
is_request e = is_content e && nat_lt 0 e.mid.number

-- the words of a body, where it has content
abbrev pub content_in : Plain → Option (List ℕ)
content_in («plain».Content words) = Some words
content_in _ = None

-- its content, where it has one, fits
abbrev pub BodyFits : (ℕ → Option ShapeTree) → Plain → Type 0
BodyFits shape_of («plain».Content words) = Fits shape_of words
BodyFits shape_of _ = Unit {0}

abbrev pub EnvelopeFits : (ℕ → Option ShapeTree) → Taken → Type 0
EnvelopeFits shape_of e = BodyFits shape_of e.body

-- ---- what every envelope of a run keeps

abbrev pub no_request : ℕ → Mid
no_request sender = record { requester = sender; number = 0; response = false }

-- what is neither request nor response names its sender alone, and system notices are urgent
pub record IsInForm (e : Taken) : Type 0 where
  pub mid : is_request e ≡ false → is_response e ≡ false → e.mid ≡ no_request e.sender
  pub urgent : is_system e ≡ true → e.priority ≡ priority.Urgent

-- ---- the outside

-- the outside's number as a sender
abbrev pub outside : ℕ
outside = limits.outside

abbrev pub from_outside : ℕ → ℕ → Notice → Taken
from_outside seq stamp what = record { sender = outside; seq = seq; mid = no_request outside; priority = priority.Urgent; stamp = stamp; body = «plain».System what }

-- Start has seq 0 and stamp 0
abbrev pub start_envelope : Taken
start_envelope = from_outside 0 0 notice.Start

-- Stop has seq 1
abbrev pub stop_envelope : ℕ → Taken
stop_envelope stamp = from_outside 1 stamp notice.Stop
