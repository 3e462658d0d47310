-- Small actors, on which the definitions are tried.
use Rattle.std.proofs.Common.{ℕ, ◌-◌, ◌&&◌, Bool, true, false, if◌then◌else◌, List, [], ◌∷◌, ◌++◌, Some, None, bytes_eq}
use Rattle.caf_types.specs.declared.notice.Notice.{Notice}
use Rattle.caf_types.specs.declared.notice.Priority.{Priority}
use Rattle.caf_types.specs.declared.notice.Priority.TheVariants.{Urgent, Normal}
use Rattle.caf_types.specs.declared.reason.Reason.TheVariants as reason
use Rattle.caf_types.specs.declared.shape.TypeId.{TypeId}
use Rattle.caf_message.specs.declared.envelope.Taken.{Taken}
use Rattle.caf_message.specs.declared.envelope.Plain.{Plain}
use Rattle.caf_message.specs.declared.envelope.Plain.TheVariants as «plain»
use Rattle.caf_message.specs.Content.{ids_in}
use Rattle.caf_message.specs.Envelope.{no_request}
use Rattle.caf_response.specs.declared.pending.Mode.{Mode}
use Rattle.caf_response.specs.declared.pending.Mode.TheVariants as mode
use Rattle.caf_signature.specs.declared.interface.Signature.{Signature}
use Rattle.caf_actor.specs.declared.snapshot.Snapshot.{Snapshot}
use Rattle.caf_actor.specs.PlainInput.{PlainInput, Start, Stop, Content}
use Rattle.caf_actor.specs.PlainOutput.{PlainOutput}
use Rattle.caf_actor.specs.PlainOutput as output
use Rattle.caf_actor.specs.PlainReaction.{PlainAnswer, PlainReaction}
use Rattle.caf_actor.specs.PlainReaction as answer
use Rattle.caf_actor.specs.PlainPost.{PlainPost}
use Rattle.caf_actor.specs.Rules.{Rules}
use Rattle.caf_actor.specs.Snapshot.{opening}
use Rattle.caf_actor.specs.Record.{kills}

-- ---- contents

-- a text of one letter, and the atom that wakes
abbrev pub text : ℕ → List ℕ
text letter = 1 ∷ 4 ∷ 1 ∷ letter ∷ []

abbrev pub wake : List ℕ
wake = 1 ∷ 216 ∷ 0 ∷ []

-- a number, which none of the actors takes
abbrev pub number : ℕ → List ℕ
number n = 1 ∷ 2 ∷ n ∷ []

abbrev pub text_types : List TypeId
text_types = record { 0 = 4 } ∷ []

abbrev pub wake_types : List TypeId
wake_types = record { 0 = 216 } ∷ []

-- ---- what the actors do

pub data Role : Type 0 where
  -- answers each content by itself
  Echo : Role
  -- keeps texts for later until it is woken, and is an echo from then on
  Sleeper : Role
  -- at Start requests two texts of place 1
  Asker : Mode → Role
  -- holds each request
  Keeper : Role
  -- delegates each content to place 2
  Forwarder : Role
  -- quits at content
  Quitter : Role
  -- at Start requests two texts of place 1, at Stop ends all other of so many places
  Conductor : ℕ → Role

pub record Player : Type 0 where
  pub role : Role
  pub place : ℕ
  -- the inputs that it was given
  pub heard : List PlainInput

abbrev pub with_text : List Signature
with_text = record { input = text_types; result = text_types } ∷ record { input = wake_types; result = wake_types } ∷ []

abbrev pub interface_of : Role → List Signature
interface_of (Conductor n) = []
interface_of (Asker how) = []
interface_of _ = with_text

abbrev pub peers_of : Role → List ℕ
peers_of (Conductor n) = 1 ∷ []
peers_of (Asker how) = 1 ∷ []
peers_of Forwarder = 2 ∷ []
peers_of _ = []

abbrev pub is_asleep : Role → Bool
is_asleep Sleeper = true
is_asleep _ = false

abbrev pub woken : Role → PlainInput → Role
woken Sleeper (Content origin words) = if bytes_eq (ids_in words) (216 ∷ []) then Echo else Sleeper
woken role _ = role

abbrev pub says : List PlainOutput → PlainReaction
says outputs = record { outputs = outputs; answer = answer.Nothing; quit = None }

abbrev pub answers : PlainAnswer → PlainReaction
answers given = record { outputs = []; answer = given; quit = None }

abbrev pub reaction_of : Role → PlainInput → PlainReaction
reaction_of Echo (Content origin words) = answers (answer.Value words)
reaction_of Sleeper (Content origin words) = answers (answer.Value words)
reaction_of Keeper (Content origin words) = answers answer.Hold
reaction_of Forwarder (Content origin words) = answers (answer.Delegate 2)
reaction_of Quitter (Content origin words) = record { outputs = []; answer = answer.Hold; quit = Some reason.Failed }
reaction_of (Asker how) Start =
    says (output.Request 1 Normal how 7 text_types (text 97) ∷ output.Request 1 Normal how 8 text_types (text 98) ∷ [])
reaction_of (Conductor n) Start =
    says (output.Request 1 Normal mode.Multiplexed 7 text_types (text 97) ∷ output.Request 1 Normal mode.Multiplexed 8 text_types (text 98) ∷ [])
reaction_of (Conductor n) Stop = says (kills 1 (n - 1))
reaction_of _ _ = says []

abbrev pub rules : Rules Player
rules = record {
  place = λ s. s.place;
  interface = λ s. interface_of s.role;
  peers = λ s. peers_of s.role;
  reserve = λ s. [];
  skips = λ s ids. is_asleep s.role && bytes_eq ids (4 ∷ []);
  delegates = λ s ids. true;
  next = λ s i. record { role = woken s.role i; place = s.place; heard = s.heard ++ i ∷ [] };
  reaction = λ s i. reaction_of s.role i;
}

abbrev pub new_player : Role → ℕ → Snapshot Player
new_player role place = opening rules place (record { role = role; place = place; heard = [] }) 0

-- ---- envelopes, all of stamp 1

abbrev pub asked : ℕ → ℕ → Priority → List ℕ → Taken
asked seq n priority words =
    record { sender = 0; seq = seq; mid = record { requester = 0; number = n; response = false }; priority = priority; stamp = 1; body = «plain».Content words }

-- content that is no request
abbrev pub told : ℕ → List ℕ → Taken
told seq words = record { sender = 0; seq = seq; mid = no_request 0; priority = Normal; stamp = 1; body = «plain».Content words }

abbrev pub answered : ℕ → ℕ → Plain → Taken
answered seq n body =
    record { sender = 1; seq = seq; mid = record { requester = 0; number = n; response = true }; priority = Normal; stamp = 1; body = body }

abbrev pub noticed : ℕ → ℕ → Notice → Taken
noticed from seq what =
    record { sender = from; seq = seq; mid = no_request from; priority = Urgent; stamp = 1; body = «plain».System what }

-- ---- posts of place 1, with stamp 2

abbrev pub replied : ℕ → ℕ → Priority → Plain → PlainPost
replied seq n priority body = record {
  to = 0;
  envelope = record { sender = 1; seq = seq; mid = record { requester = 0; number = n; response = true }; priority = priority; stamp = 2; body = body };
}

abbrev pub notified : ℕ → ℕ → Notice → PlainPost
notified to seq what = record {
  to = to;
  envelope = record { sender = 1; seq = seq; mid = no_request 1; priority = Urgent; stamp = 2; body = «plain».System what };
}

-- a request of place 0 to place 1, with stamp 1
abbrev pub requested : ℕ → ℕ → List ℕ → PlainPost
requested seq n words = record { to = 1; envelope = asked seq n Normal words }

abbrev pub stamped : ℕ → PlainPost → PlainPost
stamped stamp p = record { to = p.to; envelope = record p.envelope { stamp = stamp } }
