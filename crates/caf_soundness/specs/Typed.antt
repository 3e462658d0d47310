-- Well typed records: content goes only to actors that take it, and requests end as they were declared.
use Rattle.std.specs.Prelude.{◌≡◌, ◌≢◌, ℕ, ◌+◌, Bool, true, false, List, [], ◌∷◌, length, slice_get, Option, Some, None}
use Rattle.std.specs.List.{AllByRecursion}
use Rattle.caf_types.specs.declared.sec.Sec.{Sec}
use Rattle.caf_types.specs.declared.sec.Sec.TheVariants.{UnexpectedMessage, UnexpectedResponse}
use Rattle.caf_words.specs.Several.{ids_of}
use Rattle.caf_message.specs.Content.{ids_in}
use Rattle.caf_message.specs.Envelope.{is_request, is_response}
use Rattle.caf_message.specs.declared.envelope.Plain.{Plain}
use Rattle.caf_message.specs.declared.envelope.Plain.TheVariants as «plain»
use Rattle.caf_message.specs.declared.envelope.Taken.{Taken}
use Rattle.caf_response.specs.declared.pending.Waiting.{Waiting}
use Rattle.caf_signature.specs.Interface.{is_assignable}
use Rattle.caf_signature.specs.declared.interface.Signature.{Signature}
use Rattle.caf_actor.specs.Actor.{ActorState}
use Rattle.caf_actor.specs.Carriers.{run_resolves}
use Rattle.caf_actor.specs.Merge.{IsMerge, steps_of}
use Rattle.caf_actor.specs.PlainInput.{PlainInput, Response, Failed}
use Rattle.caf_actor.specs.Record.{Kept, machine_of, IsLegal, joined, sent_by}
use Rattle.caf_actor.specs.Resolutions.{Resolution}
use Rattle.caf_actor.specs.Rules.{is_input, declared_for}
use Rattle.caf_actor.specs.Run.{Turn, opening_state}
use Rattle.caf_actor.specs.declared.snapshot.Snapshot.{Snapshot}
use Rattle.caf_kinds.specs.Asking.{of_signed, takes}
use Rattle.caf_kinds.specs.Calc.{adding}
use Rattle.caf_kinds.specs.Kinds.{interface_of, kind_rules}
use Rattle.caf_kinds.specs.Peers.{wanted_of}
use Rattle.caf_kinds.specs.Setups.{setup_at}
use Rattle.caf_kinds.specs.declared.kind.Kind.{Kind}
use Rattle.caf_kinds.specs.declared.script.Step.{Step}
use Rattle.caf_kinds.specs.declared.setup.Setup.{Setup}
use Rattle.caf_opening.specs.Opening.{CanOpen, opening_of}

-- ---- envelopes

-- what an actor set up so takes; where no setup stands is the conductor, which takes nothing
abbrev pub face_of : Option Setup → List Signature
face_of (Some s) = interface_of s.kind
face_of None = []

-- what the actor at the place takes
abbrev pub face : List Setup → ℕ → List Signature
face setups place = face_of (setup_at setups place)

-- the error is neither that content was no input, nor that a response had other types than were declared
pub record IsExpected (sec : Sec) : Type 0 where
  pub message : sec ≢ UnexpectedMessage
  pub response : sec ≢ UnexpectedResponse

-- content that is no response is an input; what responses are is said by how requests end
abbrev pub ContentTyped : List Signature → Bool → List ℕ → Type 0
ContentTyped taken true words = Unit {0}
ContentTyped taken false words = is_input taken (ids_in words) ≡ true

abbrev pub BodyTyped : List Signature → Bool → Plain → Type 0
BodyTyped taken response («plain».Content words) = ContentTyped taken response words
BodyTyped taken response («plain».Failure sec) = IsExpected sec
BodyTyped taken response («plain».System what) = Unit {0}

-- it may come to an actor that takes these
abbrev pub IsTyped : List Signature → Taken → Type 0
IsTyped taken e = BodyTyped taken e.mid.response e.body

-- ---- how requests end

-- by a value of the types that the request declared, or by an error that is neither of the two
abbrev pub GivenTyped : Waiting → PlainInput → Type 0
GivenTyped w (Response tag words) = ids_in words ≡ ids_of w.expected
GivenTyped w (Failed tag sec) = IsExpected sec
GivenTyped w _ = ⊥

abbrev pub EndsTyped : Resolution → Type 0
EndsTyped r = GivenTyped r.request r.given

-- ---- what answers a request

-- of place `p`, whoever sends it or passes it on
pub record IsResponseTo (p : ℕ) (request response : Taken) : Type 0 where
  pub asks : is_request request ≡ true
  pub answers : is_response response ≡ true
  pub requester : request.mid.requester ≡ p
  pub number : request.mid.number ≡ response.mid.number

-- an actor that takes these answers such content by content of those types; an error may always come
abbrev pub IsAnsweredBy : List Signature → Plain → Plain → Type 0
IsAnsweredBy taken («plain».Content asked) («plain».Content answered) = declared_for taken (ids_in asked) ≡ Some (ids_in answered)
IsAnsweredBy taken _ _ = Unit {0}

abbrev pub AnswersAsDeclared : List Signature → ℕ → Taken → Taken → Type 0
AnswersAsDeclared taken p request response = IsResponseTo p request response → IsAnsweredBy taken request.body response.body

-- ---- records

-- what a place sent to another
abbrev pub sent_to : Kept (Snapshot Kind) → ℕ → ℕ → List Taken
sent_to k a b = sent_by (machine_of kind_rules) k a b

-- what each place took, also what it keeps for later or has quit before; what each place sent, also what is not yet
-- taken; what was sent to a place in answer to its requests, whoever they went to, also where it came too late; and how
-- the requests of each place ended
pub record IsWellTyped (setups : List Setup) (ticks : ℕ) (k : Kept (Snapshot Kind)) (ts : List Turn) : Type 0 where
  pub taken : (p : ℕ) → AllByRecursion (IsTyped (face setups p)) (joined (k.journal p))
  pub sent : (a p : ℕ) → AllByRecursion (IsTyped (face setups p)) (sent_to k a p)
  pub answered : (a q b p : ℕ) → AllByRecursion (λ request. AllByRecursion (AnswersAsDeclared (face setups q) p request) (sent_to k b p)) (sent_to k a q)
  pub resolved : (p : ℕ) → AllByRecursion EndsTyped (run_resolves kind_rules ticks p (opening_state k.places k.start) (steps_of ts))

-- ---- setups

-- an actor is set up there, and may be used as one of that interface
abbrev pub Serves : Option Setup → List Signature → Type 0
Serves None wanted = ⊥
Serves (Some s) wanted = is_assignable (interface_of s.kind) wanted ≡ true

-- what is passed on to a child
abbrev pub child_face : List Signature
child_face = takes adding of_signed ∷ []

-- each peer takes what is asked of it at its position, and each child adds
pub record IsWellSet (setups : List Setup) (s : Setup) : Type 0 where
  pub peers : (i p : ℕ) → slice_get s.peers i ≡ Some p → Serves (setup_at setups p) (wanted_of s.kind (length s.peers) i)
  pub reserve : AllByRecursion (λ p. Serves (setup_at setups p) child_face) s.reserve

-- each place of the record begins as the opening says
pub record Begins (setups : List Setup) (script : List Step) (files : List (List ℕ)) (k : Kept (Snapshot Kind)) : Type 0 where
  pub places : k.places ≡ length setups + 1
  pub start : (p : ℕ) (a : ActorState Kind) → slice_get (opening_of setups script files) p ≡ Some a → k.start p ≡ a.snapshot

-- ---- the laws

abbrev pub IsAlwaysWellTyped : List Setup → List Step → List (List ℕ) → Type 0
IsAlwaysWellTyped setups script files = (ticks : ℕ) (k : Kept (Snapshot Kind)) (ts : List Turn) → Begins setups script files k
    → IsLegal (machine_of kind_rules) ticks k → IsMerge k ts → IsWellTyped setups ticks k ts

abbrev pub WellSetIsWellTyped : Type 0
WellSetIsWellTyped = (setups : List Setup) (script : List Step) (files : List (List ℕ)) → CanOpen setups script files
    → AllByRecursion (IsWellSet setups) setups → IsAlwaysWellTyped setups script files
