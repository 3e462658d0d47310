-- What a behaviour means, and the laws that every behaviour keeps.
use Rattle.std.specs.Prelude.{◌≡◌, ◌≢◌, ℕ, ◌+◌, ◌<◌, ◌≤◌, Bool, true, false, List, [], ◌∷◌, ◌++◌, length, bytes_eq, Option, Some, None, is_some, find, Contains}
use Rattle.std.specs.List.{AllByRecursion}
use Rattle.std.specs.Option.{option_map}
use Rattle.caf_types.specs.ShapeTree.{ShapeTree}
use Rattle.caf_types.specs.Table.{Table, shape_at}
use Rattle.caf_words.specs.Several.{ids_of}
use Rattle.caf_message.specs.Content.{ids_in}
use Rattle.caf_message.specs.Entries.{TableEntries, HasEntries, entry_shape}
use Rattle.caf_message.specs.Fits.{Fits}
use Rattle.caf_signature.specs.declared.interface.Signature.{Signature}
use Rattle.caf_actor.specs.declared.origin.Origin.{Origin}
use Rattle.caf_actor.specs.PlainInput.{PlainInput, Stop, Content, Tick, content_given}
use Rattle.caf_actor.specs.PlainOutput.{PlainOutput, content_sent}
use Rattle.caf_actor.specs.PlainOutput as output
use Rattle.caf_actor.specs.PlainReaction.{PlainAnswer, PlainReaction, content_answered}
use Rattle.caf_actor.specs.PlainReaction as answer

pub record Rules (S : Type 0) : Type 0 where
  pub place : S → ℕ
  pub interface : S → List Signature
  pub peers : S → List ℕ
  -- the places of its children
  pub reserve : S → List ℕ
  -- whether content with these IDs is kept for later
  pub skips : S → List ℕ → Bool
  -- whether it may pass content with these IDs on to another place
  pub delegates : S → List ℕ → Bool
  -- the value after an input, and what it does at it
  pub next : S → PlainInput → S
  pub reaction : S → PlainInput → PlainReaction

-- ---- inputs

abbrev pub takes_ids : List ℕ → Signature → Bool
takes_ids ids s = bytes_eq (ids_of s.input) ids

-- the signature that content with these IDs meets
abbrev pub signature_for : List Signature → List ℕ → Option Signature
signature_for interface ids = find (takes_ids ids) interface

-- content with these IDs is an input of the interface
abbrev pub is_input : List Signature → List ℕ → Bool
is_input interface ids = is_some (signature_for interface ids)

-- the IDs that the interface declares for the answer
abbrev pub declared_for : List Signature → List ℕ → Option (List ℕ)
declared_for interface ids = option_map (λ (s : Signature). ids_of s.result) (signature_for interface ids)

-- the behaviour may be given it: content only where its types are an input
abbrev pub MayBeGiven : {S : Type 0} → Rules S → S → PlainInput → Type 0
MayBeGiven rules s (Content origin words) = is_input (rules.interface s) (ids_in words) ≡ true
MayBeGiven rules s _ = Unit {0}

-- the behaviour after these inputs
abbrev pub fed : {S : Type 0} → Rules S → S → List PlainInput → S
fed rules s [] = s
fed rules s (i ∷ is) = fed rules (rules.next s i) is

-- it may be given each of them
abbrev pub MayBeFed : {S : Type 0} → Rules S → S → List PlainInput → Type 0
MayBeFed rules s [] = Unit {0}
MayBeFed rules s (i ∷ is) = MayBeGiven rules s i × MayBeFed rules (rules.next s i) is

-- ---- which contents fit

-- the words have the property, where there are some
abbrev pub WhereGiven : (List ℕ → Type 0) → Option (List ℕ) → Type 0
WhereGiven P None = Unit {0}
WhereGiven P (Some words) = P words

abbrev pub InputFits : (ℕ → Option ShapeTree) → PlainInput → Type 0
InputFits shape_of i = WhereGiven (Fits shape_of) (content_given i)

abbrev pub OutputFits : (ℕ → Option ShapeTree) → PlainOutput → Type 0
OutputFits shape_of o = WhereGiven (Fits shape_of) (content_sent o)

abbrev pub AnswerFits : (ℕ → Option ShapeTree) → PlainAnswer → Type 0
AnswerFits shape_of a = WhereGiven (Fits shape_of) (content_answered a)

pub record ReactionFits (shape_of : ℕ → Option ShapeTree) (r : PlainReaction) : Type 0 where
  pub outputs : AllByRecursion (OutputFits shape_of) r.outputs
  pub answer : AnswerFits shape_of r.answer

-- ---- where a reaction sends

abbrev pub output_targets : PlainOutput → List ℕ
output_targets (output.Tell to priority words) = to ∷ []
output_targets (output.TellMany places priority words) = places
output_targets (output.Request to priority mode tag expected words) = to ∷ []
output_targets (output.Exit to reason) = to ∷ []
output_targets (output.Link to) = to ∷ []
output_targets (output.Unlink to) = to ∷ []
output_targets (output.Watch to) = to ∷ []
output_targets (output.Unwatch to) = to ∷ []
output_targets (output.Deliver requester number words) = []
output_targets (output.Break requester number sec) = []
output_targets (output.Spawn place) = place ∷ []
output_targets (output.Tick to) = to ∷ []
output_targets (output.Delay ticks to priority words) = to ∷ []
output_targets (output.Within ticks to priority mode tag expected words) = to ∷ []

abbrev pub answer_targets : PlainAnswer → List ℕ
answer_targets (answer.Delegate to) = to ∷ []
answer_targets _ = []

-- its own place, a peer, or the place of a child
abbrev pub IsTarget : {S : Type 0} → Rules S → S → ℕ → Type 0
IsTarget rules s to = Contains (rules.place s ∷ (rules.peers s ++ rules.reserve s)) to

pub record HasTargets {S : Type 0} (rules : Rules S) (s : S) (r : PlainReaction) : Type 0 where
  pub outputs : AllByRecursion (λ o. AllByRecursion (IsTarget rules s) (output_targets o)) r.outputs
  pub answer : AllByRecursion (IsTarget rules s) (answer_targets r.answer)

-- how many the outputs count: one each, but one for each place of a `TellMany`, and none for a hold that
-- is settled or for a tick that is handed on
abbrev pub output_count : PlainOutput → ℕ
output_count (output.TellMany places priority words) = length places
output_count (output.Deliver requester number words) = 0
output_count (output.Break requester number sec) = 0
output_count (output.Tick to) = 0
output_count _ = 1

abbrev pub outputs_count : List PlainOutput → ℕ
outputs_count [] = 0
outputs_count (o ∷ os) = output_count o + outputs_count os

abbrev pub IsExit : PlainOutput → Type 0
IsExit (output.Exit to reason) = Unit {0}
IsExit _ = ⊥

abbrev pub IsNoTick : PlainOutput → Type 0
IsNoTick (output.Tick to) = ⊥
IsNoTick _ = Unit {0}

abbrev pub is_tick : PlainInput → Bool
is_tick Tick = true
is_tick _ = false

-- ---- the laws, for the values that occur (`valid`)

module _ {S : Type 0} (valid : S → Type 0) (rules : Rules S) where
  -- a reaction leaves a value that may occur, with the same place, interface, peers and reserve
  abbrev pub StaysValid : Type 0
  StaysValid = (s : S) (i : PlainInput) → valid s → MayBeGiven rules s i → valid (rules.next s i)

  pub record IsSameActor (s next : S) : Type 0 where
    pub place : rules.place next ≡ rules.place s
    pub interface : rules.interface next ≡ rules.interface s
    pub peers : rules.peers next ≡ rules.peers s
    pub reserve : rules.reserve next ≡ rules.reserve s

  abbrev pub StaysSameActor : Type 0
  StaysSameActor = (s : S) (i : PlainInput) → valid s → MayBeGiven rules s i → IsSameActor s (rules.next s i)

  -- only inputs of the interface are skipped
  abbrev pub SkipsInputs : Type 0
  SkipsInputs = (s : S) (ids : List ℕ) → valid s → rules.skips s ids ≡ true → is_input (rules.interface s) ids ≡ true

  -- the messages of a reaction fit the table that it was handed
  abbrev pub FitsItsTable : TableEntries → Type 0
  FitsItsTable entries = (t : Table) (s : S) (i : PlainInput) → HasEntries t entries → valid s → MayBeGiven rules s i
      → InputFits (shape_at t) i → ReactionFits (shape_at t) (rules.reaction s i)

  -- where the input has no message, or one that fits the needed entries, they fit those entries
  abbrev pub FitsItsEntries : TableEntries → Type 0
  FitsItsEntries entries = (s : S) (i : PlainInput) → valid s → MayBeGiven rules s i
      → InputFits (entry_shape entries) i → ReactionFits (entry_shape entries) (rules.reaction s i)

  -- a request is answered
  abbrev pub AnswersRequests : Type 0
  AnswersRequests = (s : S) (origin : Origin) (words : List ℕ) → valid s → MayBeGiven rules s (Content origin words)
      → 0 < origin.mid.number → (rules.reaction s (Content origin words)).answer ≢ answer.Nothing

  -- by a value of the declared types, where it is one
  abbrev pub AnswersAsDeclared : Type 0
  AnswersAsDeclared = (s : S) (origin : Origin) (words value : List ℕ) → valid s → MayBeGiven rules s (Content origin words)
      → (rules.reaction s (Content origin words)).answer ≡ answer.Value value → declared_for (rules.interface s) (ids_in words) ≡ Some (ids_in value)

  -- it sends to its peers, to its children and to itself alone
  abbrev pub SendsToPeers : Type 0
  SendsToPeers = (s : S) (i : PlainInput) → valid s → MayBeGiven rules s i → HasTargets rules s (rules.reaction s i)

  -- at most 1,024 outputs
  abbrev pub SendsFew : Type 0
  SendsFew = (s : S) (i : PlainInput) → valid s → MayBeGiven rules s i → outputs_count (rules.reaction s i).outputs ≤ 1024

  -- it passes content on only where it said so of the content's types
  abbrev pub DelegatesAsTold : Type 0
  DelegatesAsTold = (s : S) (origin : Origin) (words : List ℕ) (to : ℕ) → valid s → MayBeGiven rules s (Content origin words)
      → (rules.reaction s (Content origin words)).answer ≡ answer.Delegate to → rules.delegates s (ids_in words) ≡ true

  -- only at a tick it hands ticks on
  abbrev pub TicksAtTicks : Type 0
  TicksAtTicks = (s : S) (i : PlainInput) → valid s → MayBeGiven rules s i → is_tick i ≡ false
      → AllByRecursion IsNoTick (rules.reaction s i).outputs

  -- at Stop it sends exits alone
  abbrev pub StopsWithExits : Type 0
  StopsWithExits = (s : S) → valid s → AllByRecursion IsExit (rules.reaction s Stop).outputs
