-- Which inputs may come to which place, where what each place sends is what may come to others.
use Rattle.std.specs.Prelude.{◌≡◌, ℕ, ◌<◌, Bool, true, false, List, [], None}
use Rattle.std.specs.List.{AllByRecursion}
use Rattle.caf_message.specs.Content.{ids_in}
use Rattle.caf_message.specs.Envelope.{no_request}
use Rattle.caf_message.specs.declared.envelope.Plain.TheVariants as «plain»
use Rattle.caf_types.specs.declared.notice.Mid.{Mid}
use Rattle.caf_types.specs.declared.notice.Priority.{Priority}
use Rattle.caf_types.specs.declared.sec.Sec.{Sec}
use Rattle.caf_types.specs.declared.sec.Sec.TheVariants.{UnexpectedResponse}
use Rattle.caf_mailbox.specs.Caches.{nothing_cached}
use Rattle.caf_response.specs.declared.pending.Mode.TheVariants.{Multiplexed}
use Rattle.caf_actor.specs.declared.origin.Origin.{Origin}
use Rattle.caf_actor.specs.declared.snapshot.Snapshot.{Snapshot}
use Rattle.caf_actor.specs.Answering.{is_asked}
use Rattle.caf_actor.specs.PlainInput.{PlainInput, Start, Content, Response, Failed}
use Rattle.caf_actor.specs.PlainOutput.{PlainOutput, Tell, TellMany, Request, Deliver, Break}
use Rattle.caf_actor.specs.PlainReaction.{PlainAnswer, Value, Error, Delegate, Hold, Nothing}
use Rattle.caf_actor.specs.Record.{Kept, machine_of, IsLegal, heard, joined}
use Rattle.caf_actor.specs.Merge.{IsMerge}
use Rattle.caf_actor.specs.Run.{Turn}
use Rattle.caf_actor.specs.Rules.{Rules, is_input, fed}
use Rattle.caf_actor.specs.Sending.{mid_of}
use Rattle.caf_steady.specs.Steady.{BodyBrings, Brings}

abbrev pub origin_from : ℕ → Mid → Priority → Origin
origin_from place mid priority = record { sender = place; mid = mid; priority = priority }

-- `comes` says which inputs may come to a place
module _ (comes : ℕ → PlainInput → Bool) where
  -- ---- what may be sent

  -- content that is no request
  abbrev pub MayTell : ℕ → Priority → List ℕ → ℕ → Type 0
  MayTell place priority words to = comes to (Content (origin_from place (no_request place) priority) words) ≡ true

  abbrev pub MayAnswer : ℕ → List ℕ → Type 0
  MayAnswer requester words = (tag : ℕ) → (comes requester (Response tag words) ≡ true) × (comes requester (Failed tag UnexpectedResponse) ≡ true)

  abbrev pub MayFail : ℕ → Sec → Type 0
  MayFail requester sec = (tag : ℕ) → comes requester (Failed tag sec) ≡ true

  -- the place may send it
  abbrev pub MaySend : ℕ → PlainOutput → Type 0
  MaySend place (Tell to priority words) = MayTell place priority words to
  MaySend place (TellMany places priority words) = AllByRecursion (MayTell place priority words) places
  MaySend place (Request to priority mode tag expected words) =
      (mode ≡ Multiplexed) × ((number : ℕ) → comes to (Content (origin_from place (mid_of place number) priority) words) ≡ true)
  MaySend place (Deliver requester number words) = MayAnswer requester words
  MaySend place (Break requester number sec) = MayFail requester sec
  MaySend place _ = ⊥

  -- content that is passed on keeps its mid where it is a request
  abbrev pub MayPass : Bool → ℕ → Origin → List ℕ → ℕ → Type 0
  MayPass true place origin words to = BodyBrings (comes to) (origin_from place origin.mid origin.priority) («plain».Content words)
  MayPass false place origin words to = MayTell place origin.priority words to

  abbrev pub MayReply : ℕ → Origin → List ℕ → PlainAnswer → Type 0
  MayReply place origin words (Value value) = is_asked origin ≡ true → MayAnswer origin.mid.requester value
  MayReply place origin words (Error sec) = is_asked origin ≡ true → MayFail origin.mid.requester sec
  MayReply place origin words (Delegate to) = MayPass (is_asked origin) place origin words to
  MayReply place origin words Hold = Unit {0}
  MayReply place origin words Nothing = Unit {0}

  -- content alone is answered
  abbrev pub MayReplyTo : ℕ → PlainInput → PlainAnswer → Type 0
  MayReplyTo place (Content origin words) a = MayReply place origin words a
  MayReplyTo place _ a = Unit {0}

  module _ {S : Type 0} (rules : Rules S) where
    abbrev pub IsTaken : S → PlainInput → Type 0
    IsTaken b (Content origin words) = is_input (rules.interface b) (ids_in words) ≡ true
    IsTaken b _ = Unit {0}

    -- it takes what comes, keeps nothing for later, doesn't quit, and sends what may come to others
    pub record KeepsClasses (place : ℕ) (b : S) : Type 0 where
      pub wants : (ids : List ℕ) → rules.skips b ids ≡ false
      pub takes : (i : PlainInput) → comes place i ≡ true → IsTaken b i
      pub sends : (i : PlainInput) → comes place i ≡ true → AllByRecursion (MaySend place) (rules.reaction b i).outputs
      pub replies : (i : PlainInput) → comes place i ≡ true → MayReplyTo place i (rules.reaction b i).answer
      pub stays : (i : PlainInput) → comes place i ≡ true → (rules.reaction b i).quit ≡ None

    -- whatever of these inputs it was given
    abbrev pub AlwaysKeeps : ℕ → S → Type 0
    AlwaysKeeps place b = (is : List PlainInput) → AllByRecursion (λ i. comes place i ≡ true) is → KeepsClasses place (fed rules b is)

    -- at first
    pub record BeginsSteady (place : ℕ) (s : Snapshot S) : Type 0 where
      pub at : s.place ≡ place
      pub keeps : AlwaysKeeps place s.behavior
      pub begun : s.has_begun ≡ true
      pub here : s.quit ≡ None
      pub awaits : s.pending.awaited ≡ []
      pub empty : s.caches ≡ nothing_cached

-- ---- the law

-- in a legal record in which the outside sent Start alone, each place took only what may come to it
abbrev pub TakesItsClass : {S : Type 0} → Rules S → Type 0
TakesItsClass {S} rules = (comes : ℕ → PlainInput → Bool) (ticks : ℕ) (k : Kept (Snapshot S)) (ts : List Turn)
    → IsLegal (machine_of rules) ticks k → IsMerge k ts → heard (k.journal 0) ≡ []
    → comes 0 Start ≡ true → ((p : ℕ) → p < k.places → BeginsSteady comes rules p (k.start p))
    → (p : ℕ) → AllByRecursion (Brings (comes p)) (joined (k.journal p))
