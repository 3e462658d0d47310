-- Which actors are steady, and the law of them.
use Rattle.std.specs.Prelude.{◌≡◌, ℕ, Bool, true, false, List, [], map, None}
use Rattle.std.specs.List.{AllByRecursion}
use Rattle.caf_types.specs.declared.notice.Notice.{Notice}
use Rattle.caf_types.specs.declared.notice.Notice.TheVariants as notice
use Rattle.caf_types.specs.declared.sec.Sec.TheVariants.{UnexpectedResponse}
use Rattle.caf_message.specs.declared.envelope.Plain.{Plain}
use Rattle.caf_message.specs.declared.envelope.Plain.TheVariants as «plain»
use Rattle.caf_message.specs.declared.envelope.Taken.{Taken}
use Rattle.caf_mailbox.specs.Caches.{nothing_cached}
use Rattle.caf_response.specs.declared.pending.Mode.TheVariants.{Multiplexed}
use Rattle.caf_actor.specs.declared.journal.TakenBatch.{TakenBatch}
use Rattle.caf_actor.specs.declared.origin.Origin.{Origin}
use Rattle.caf_actor.specs.declared.snapshot.Snapshot.{Snapshot}
use Rattle.caf_actor.specs.Answering.{origin_of}
use Rattle.caf_actor.specs.PlainInput.{PlainInput, Start, Stop, Content, Response, Failed}
use Rattle.caf_actor.specs.PlainOutput.{PlainOutput, Tell, TellMany, Request, Exit, Deliver, Break}
use Rattle.caf_actor.specs.Record.{machine_of, joined, after, posted}
use Rattle.caf_actor.specs.Rules.{Rules, fed}
use Rattle.caf_steady.specs.Outline.{Outlined, outline_of, bare}
use Rattle.caf_steady.specs.Reading.{read, all_in_turn}

-- ---- what it does

abbrev pub IsSteadyOutput : PlainOutput → Type 0
IsSteadyOutput (Tell to priority words) = Unit {0}
IsSteadyOutput (TellMany places priority words) = Unit {0}
IsSteadyOutput (Request to priority mode tag expected words) = mode ≡ Multiplexed
IsSteadyOutput (Exit to reason) = Unit {0}
IsSteadyOutput (Deliver requester number words) = Unit {0}
IsSteadyOutput (Break requester number sec) = Unit {0}
IsSteadyOutput _ = ⊥

-- ---- what it is given

-- `comes` says which inputs may come
module _ (comes : PlainInput → Bool) where
  abbrev pub ContentBrings : Bool → Origin → List ℕ → Type 0
  ContentBrings true origin words = (tag : ℕ) → (comes (Response tag words) ≡ true) × (comes (Failed tag UnexpectedResponse) ≡ true)
  ContentBrings false origin words = comes (Content origin words) ≡ true

  abbrev pub NoticeBrings : Notice → Type 0
  NoticeBrings notice.Start = comes Start ≡ true
  NoticeBrings notice.Stop = comes Stop ≡ true
  NoticeBrings _ = ⊥

  abbrev pub BodyBrings : Origin → Plain → Type 0
  BodyBrings origin («plain».System what) = NoticeBrings what
  BodyBrings origin («plain».Failure sec) = (tag : ℕ) → comes (Failed tag sec) ≡ true
  BodyBrings origin («plain».Content words) = ContentBrings origin.mid.response origin words

  -- whatever input the envelope makes is one of those
  abbrev pub Brings : Taken → Type 0
  Brings e = BodyBrings (origin_of e) e.body

-- ---- steady behaviours and actors

module _ {S : Type 0} (rules : Rules S) (comes : PlainInput → Bool) where
  -- it keeps nothing for later, has such outputs alone, and doesn't quit
  pub record IsSteadyAt (b : S) : Type 0 where
    pub wants : (ids : List ℕ) → rules.skips b ids ≡ false
    pub outputs : (i : PlainInput) → comes i ≡ true → AllByRecursion IsSteadyOutput (rules.reaction b i).outputs
    pub stays : (i : PlainInput) → comes i ≡ true → (rules.reaction b i).quit ≡ None

  -- whatever of these inputs it was given
  abbrev pub IsSteadyBehavior : S → Type 0
  IsSteadyBehavior b = (is : List PlainInput) → AllByRecursion (λ i. comes i ≡ true) is → IsSteadyAt (fed rules b is)

  pub record IsSteady (s : Snapshot S) : Type 0 where
    pub behavior : IsSteadyBehavior s.behavior
    pub begun : s.has_begun ≡ true
    pub here : s.quit ≡ None
    pub awaits : s.pending.awaited ≡ []

-- ---- the law

abbrev pub reading : {S : Type 0} → Rules S → Snapshot S → List TakenBatch → Outlined S
reading rules s bs = read rules (record { outline = outline_of s; sent = [] }) (all_in_turn bs)

-- the actor stands where reading leads, has sent what reading sends, and is steady with nothing in its lists
pub record HasRead {S : Type 0} (rules : Rules S) (comes : PlainInput → Bool) (s : Snapshot S) (bs : List TakenBatch) : Type 0 where
  pub stands : outline_of (after (machine_of rules) s bs) ≡ (reading rules s bs).outline
  pub sent : map bare (posted (machine_of rules) s bs) ≡ (reading rules s bs).sent
  pub steady : IsSteady rules comes (after (machine_of rules) s bs)
  pub handled : (after (machine_of rules) s bs).caches ≡ nothing_cached

abbrev pub ReadsInTurn : {S : Type 0} → Rules S → Type 0
ReadsInTurn {S} rules = (comes : PlainInput → Bool) (s : Snapshot S) (bs : List TakenBatch)
    → IsSteady rules comes s → s.caches ≡ nothing_cached → AllByRecursion (Brings comes) (joined bs)
    → HasRead rules comes s bs
