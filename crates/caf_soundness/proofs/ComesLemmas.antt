-- What may come to a place and what may be sent, where it is kept which types each request declared.
use Rattle.std.proofs.Common.{◌≡◌, ℕ, ◌+◌, ◌==◌, nat_lt, Bool, true, false, List, length, Option, Some, None, refl}
use Rattle.std.specs.Prelude.{is_some}
use Rattle.std.specs.Option.{option_map}
use Rattle.std.specs.List.{AllByRecursion}
use Rattle.caf_types.specs.declared.notice.Mid.{Mid}
use Rattle.caf_words.specs.Several.{ids_of}
use Rattle.caf_message.specs.Content.{ids_in}
use Rattle.caf_message.specs.declared.envelope.Plain.{Plain}
use Rattle.caf_message.specs.declared.envelope.Plain.TheVariants as «plain»
use Rattle.caf_message.specs.declared.envelope.Taken.{Taken}
use Rattle.caf_mailbox.specs.Caches.{CachedLists}
use Rattle.caf_mailbox.proofs.NextLemmas.{AllCached}
use Rattle.caf_response.specs.declared.pending.Waiting.{Waiting}
use Rattle.caf_response.specs.Delays.{PlainDelay}
use Rattle.caf_signature.specs.declared.interface.Signature.{Signature}
use Rattle.caf_actor.specs.declared.origin.Origin.{Origin}
use Rattle.caf_actor.specs.Answering.{is_asked}
use Rattle.caf_actor.specs.PlainInput.{PlainInput, Content}
use Rattle.caf_actor.specs.PlainOutput.{PlainOutput, Tell, TellMany, Request, Exit, Link, Unlink, Watch, Unwatch, Deliver, Break, Spawn, Tick, Delay, Within}
use Rattle.caf_actor.specs.PlainPost.{PlainPost}
use Rattle.caf_actor.specs.PlainReaction.{PlainAnswer, Value, Error, Delegate, Hold, Nothing}
use Rattle.caf_actor.specs.Rules.{Rules, signature_for, is_input, declared_for}
use Rattle.caf_actor.specs.Snapshot.{Handled}
use Rattle.caf_record.proofs.ListLemmas.{all_map}
use Rattle.caf_soundness.specs.Typed.{IsExpected, BodyTyped, IsTyped}
use Rattle.caf_soundness.proofs.LogLemmas.{Log, Declares, Grows, stays}

-- ---- what is declared is an input

pub declared_is_input : (interface : List Signature) (ids result : List ℕ) → declared_for interface ids ≡ Some result → is_input interface ids ≡ true
declared_is_input interface ids result e = go (signature_for interface ids) e
  where
    go : (o : Option Signature) → option_map (λ (s : Signature). ids_of s.result) o ≡ Some result → is_some o ≡ true
    go None e = absurd cc
    go (Some s) e = refl

pub input_is_declared : (interface : List Signature) (ids : List ℕ) → is_input interface ids ≡ true → (result : List ℕ) × (declared_for interface ids ≡ Some result)
input_is_declared interface ids e = go (signature_for interface ids) e
  where
    go : (o : Option Signature) → is_some o ≡ true → (result : List ℕ) × (option_map (λ (s : Signature). ids_of s.result) o ≡ Some result)
    go None e = absurd cc
    go (Some s) e = (ids_of s.result, refl)

-- `face` is what each place takes
module _ (face : ℕ → List Signature) where
  abbrev pub Accepts : ℕ → List ℕ → Type 0
  Accepts place words = is_input (face place) (ids_in words) ≡ true

  -- content of those types is answered so
  abbrev pub AnswersBy : ℕ → List ℕ → List ℕ → Type 0
  AnswersBy place words ids = declared_for (face place) (ids_in words) ≡ Some ids

  -- the request declared what the place answers to the content
  pub record IsAsked (l : Log) (place : ℕ) (mid : Mid) (words : List ℕ) : Type 0 where
    pub ids : List ℕ
    pub answers : AnswersBy place words ids
    pub declares : Declares l mid.requester mid.number ids

  abbrev pub IsAskedWhere : Log → ℕ → Mid → List ℕ → Type 0
  IsAskedWhere l place mid words = nat_lt 0 mid.number ≡ true → IsAsked l place mid words

  -- ---- what comes to a place

  abbrev pub ContentComes : Log → ℕ → Mid → Bool → List ℕ → Type 0
  ContentComes l place mid true words = Declares l place mid.number (ids_in words)
  ContentComes l place mid false words = Accepts place words × IsAskedWhere l place mid words

  abbrev pub BodyComes : Log → ℕ → Mid → Plain → Type 0
  BodyComes l place mid («plain».Content words) = ContentComes l place mid mid.response words
  BodyComes l place mid («plain».Failure sec) = IsExpected sec
  BodyComes l place mid («plain».System what) = Unit {0}

  abbrev pub Comes : Log → ℕ → Taken → Type 0
  Comes l place e = BodyComes l place e.mid e.body

  abbrev pub Arrives : Log → PlainPost → Type 0
  Arrives l p = BodyComes l p.to p.envelope.mid p.envelope.body

  abbrev pub IsDeclared : Log → ℕ → Waiting → Type 0
  IsDeclared l place w = Declares l place w.number (ids_of w.expected)

  abbrev pub IsDelayed : PlainDelay → Type 0
  IsDelayed d = Accepts d.to d.content

  -- ---- what a place sends

  abbrev pub Sends : Log → PlainOutput → Type 0
  Sends l (Tell to priority words) = Accepts to words
  Sends l (TellMany places priority words) = AllByRecursion (λ to. Accepts to words) places
  Sends l (Request to priority mode tag expected words) = AnswersBy to words (ids_of expected)
  Sends l (Within ticks to priority mode tag expected words) = AnswersBy to words (ids_of expected)
  Sends l (Deliver requester number words) = Declares l requester number (ids_in words)
  Sends l (Break requester number sec) = IsExpected sec
  Sends l (Delay ticks to priority words) = Accepts to words
  Sends l _ = Unit {0}

  -- another place takes the content and answers it as this one does
  abbrev pub Replies : Log → ℕ → Origin → List ℕ → PlainAnswer → Type 0
  Replies l place origin words (Value value) = is_asked origin ≡ true → Declares l origin.mid.requester origin.mid.number (ids_in value)
  Replies l place origin words (Error sec) = IsExpected sec
  Replies l place origin words (Delegate to) = declared_for (face to) (ids_in words) ≡ declared_for (face place) (ids_in words)
  Replies l place origin words _ = Unit {0}

  abbrev pub RepliesTo : Log → ℕ → PlainInput → PlainAnswer → Type 0
  RepliesTo l place (Content origin words) a = Replies l place origin words a
  RepliesTo l place _ a = Unit {0}

  -- ---- what a behaviour is given, and what it does

  abbrev pub Given : Log → ℕ → PlainInput → Type 0
  Given l place (Content origin words) = Accepts place words × IsAskedWhere l place origin.mid words
  Given l place _ = Unit {0}

  module _ {S : Type 0} (rules : Rules S) (T : Log → ℕ → S → Type 0) where
    pub record Does (l : Log) (place : ℕ) (s : S) (i : PlainInput) : Type 0 where
      pub outputs : AllByRecursion (Sends l) (rules.reaction s i).outputs
      pub answer : RepliesTo l place i (rules.reaction s i).answer
      pub next : T l place (rules.next s i)

    -- values of which `T` holds do so, whatever they are given
    pub record Behaves : Type 0 where
      pub grows : (l m : Log) (place : ℕ) (s : S) → Grows l m → T l place s → T m place s
      pub takes : (l : Log) (place : ℕ) (s : S) → T l place s → rules.interface s ≡ face place
      pub does : (l : Log) (place : ℕ) (s : S) (i : PlainInput) → T l place s → Given l place i → Does l place s i

    -- ---- an actor at work

    -- all that it keeps and all that it posted is as it is to be, where the log was `first`
    pub record IsKept (first : Log) (place : ℕ) (l : Log) (at : ℕ) (s : S) (next : ℕ) (awaited multiplexed : List Waiting) (caches : CachedLists) (delays : List PlainDelay) (posts : List PlainPost) : Type 0 where
      pub grown : Grows first l
      pub others : (r : ℕ) → (r == place) ≡ false → l r ≡ first r
      pub at_is : at ≡ place
      pub typed : T l place s
      pub numbered : next ≡ length (l place) + 1
      pub awaits : AllByRecursion (IsDeclared l place) awaited
      pub waits : AllByRecursion (IsDeclared l place) multiplexed
      pub cached : AllCached (Comes l place) caches
      pub delayed : AllByRecursion IsDelayed delays
      pub posted : AllByRecursion (Arrives l) posts

    abbrev pub Good : Log → ℕ → Log → Handled S → Type 0
    Good first place l t =
        IsKept first place l t.snapshot.place t.snapshot.behavior t.snapshot.pending.next t.snapshot.pending.awaited t.snapshot.pending.multiplexed t.snapshot.caches t.snapshot.delays t.posts

    -- with a log that has grown
    pub record After (first : Log) (place : ℕ) (l : Log) (t : Handled S) : Type 0 where
      pub log : Log
      pub on : Grows l log
      pub good : Good first place log t

    pub at_once : (first : Log) (place : ℕ) (l : Log) (t : Handled S) → Good first place l t → After first place l t
    at_once first place l t h = record { log = l; on = stays l; good = h }

  -- ---- a log that grows

  module _ (l m : Log) (grow : Grows l m) where
    pub asked_grows : (place : ℕ) (mid : Mid) (words : List ℕ) → IsAskedWhere l place mid words → IsAskedWhere m place mid words
    asked_grows place mid words is e =
        let asked = is e in
        record { ids = asked.ids; answers = asked.answers; declares = grow mid.requester mid.number asked.ids asked.declares }

    content_grows : (place : ℕ) (mid : Mid) (response : Bool) (words : List ℕ) → ContentComes l place mid response words → ContentComes m place mid response words
    content_grows place mid true words h = grow place mid.number (ids_in words) h
    content_grows place mid false words h = (h.0, asked_grows place mid words h.1)

    pub body_grows : (place : ℕ) (mid : Mid) (body : Plain) → BodyComes l place mid body → BodyComes m place mid body
    body_grows place mid («plain».Content words) h = content_grows place mid mid.response words h
    body_grows place mid («plain».Failure sec) h = h
    body_grows place mid («plain».System what) h = h

    pub sends_grows : (o : PlainOutput) → Sends l o → Sends m o
    sends_grows (Tell to priority words) h = h
    sends_grows (TellMany places priority words) h = h
    sends_grows (Request to priority mode tag expected words) h = h
    sends_grows (Within ticks to priority mode tag expected words) h = h
    sends_grows (Deliver requester number words) h = grow requester number (ids_in words) h
    sends_grows (Break requester number sec) h = h
    sends_grows (Delay ticks to priority words) h = h
    sends_grows (Exit to reason) h = h
    sends_grows (Link to) h = h
    sends_grows (Unlink to) h = h
    sends_grows (Watch to) h = h
    sends_grows (Unwatch to) h = h
    sends_grows (Spawn p) h = h
    sends_grows (Tick to) h = h

    pub replies_grows : (place : ℕ) (origin : Origin) (words : List ℕ) (a : PlainAnswer) → Replies l place origin words a → Replies m place origin words a
    replies_grows place origin words (Value value) h = λ e. grow origin.mid.requester origin.mid.number (ids_in value) (h e)
    replies_grows place origin words (Error sec) h = h
    replies_grows place origin words (Delegate to) h = h
    replies_grows place origin words Hold h = h
    replies_grows place origin words Nothing h = h

    pub all_come : (place : ℕ) (es : List Taken) → AllByRecursion (Comes l place) es → AllByRecursion (Comes m place) es
    all_come place es h = all_map (Comes l place) (Comes m place) (λ e. body_grows place e.mid e.body) es h

    pub all_cached_come : (place : ℕ) (lists : CachedLists) → AllCached (Comes l place) lists → AllCached (Comes m place) lists
    all_cached_come place lists h = (all_come place lists.urgent h.0, all_come place lists.normal h.1)

    pub all_arrive : (ps : List PlainPost) → AllByRecursion (Arrives l) ps → AllByRecursion (Arrives m) ps
    all_arrive ps h = all_map (Arrives l) (Arrives m) (λ p. body_grows p.to p.envelope.mid p.envelope.body) ps h

    pub all_declared : (place : ℕ) (ws : List Waiting) → AllByRecursion (IsDeclared l place) ws → AllByRecursion (IsDeclared m place) ws
    all_declared place ws h = all_map (IsDeclared l place) (IsDeclared m place) (λ w d. grow place w.number (ids_of w.expected) d) ws h

    pub all_send : (os : List PlainOutput) → AllByRecursion (Sends l) os → AllByRecursion (Sends m) os
    all_send os h = all_map (Sends l) (Sends m) sends_grows os h

  -- ---- what comes is typed

  content_typed : (l : Log) (place : ℕ) (mid : Mid) (response : Bool) (words : List ℕ) → ContentComes l place mid response words → BodyTyped (face place) response («plain».Content words)
  content_typed l place mid true words h = tt
  content_typed l place mid false words h = h.0

  body_typed : (l : Log) (place : ℕ) (mid : Mid) (body : Plain) → BodyComes l place mid body → BodyTyped (face place) mid.response body
  body_typed l place mid («plain».Content words) h = content_typed l place mid mid.response words h
  body_typed l place mid («plain».Failure sec) h = h
  body_typed l place mid («plain».System what) h = h

  pub all_typed : (l : Log) (place : ℕ) (es : List Taken) → AllByRecursion (Comes l place) es → AllByRecursion (IsTyped (face place)) es
  all_typed l place es h = all_map (Comes l place) (IsTyped (face place)) (λ e. body_typed l place e.mid e.body) es h
