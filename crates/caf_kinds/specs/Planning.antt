-- What a conductor's script is, as its steps are given.
use Rattle.std.specs.Prelude.{◌≡◌, ℕ, zero, suc, ◌+◌, false, List, [], ◌∷◌, length, map, take, replicate, Option, Some, None}
use Rattle.caf_types.specs.declared.shape.TypeId.{TypeId}
use Rattle.caf_words.specs.Datum.{data_of}
use Rattle.caf_types.specs.Table.{shape_at}
use Rattle.caf_words.specs.Spelling.{spellings}
use Rattle.caf_words.specs.Several.{ids_of}
use Rattle.caf_words.specs.Value.{datum}
use Rattle.caf_words.specs.declared.value.Value.{Value}
use Rattle.caf_message.specs.Content.{content_of}
use Rattle.caf_message.specs.Builder.{Built, BuiltFits}
use Rattle.caf_signature.specs.Interface.{result_for}
use Rattle.caf_actor.specs.PlainOutput as output
use Rattle.caf_script.specs.Step as planned
use Rattle.caf_script.specs.Reply as reply
use Rattle.caf_script.specs.declared.script.Script.{Script}
use Rattle.caf_kinds.specs.Core.{core}
use Rattle.caf_kinds.specs.Who.{Who}
use Rattle.caf_kinds.specs.Kinds.{interface_of}
use Rattle.caf_kinds.specs.Setups.{setup_at}
use Rattle.std.specs.List.{AllByRecursion}
use Rattle.caf_kinds.specs.Conductor.{Conducting, MayPlay}
use Rattle.caf_kinds.specs.declared.setup.Setup.{Setup}
use Rattle.caf_kinds.specs.declared.script.Step.{Step}
use Rattle.caf_kinds.specs.declared.script.Step.TheVariants as step

-- the content of a step's message
abbrev pub content_for : List TypeId → List Value → List ℕ
content_for types values = content_of (ids_of types) (data_of (map datum values))

-- the builder has the first of these types and values, and they fit the table of the kinds
pub record IsBuiltTo (n : ℕ) (types : List TypeId) (values : List Value) (b : Built) : Type 0 where
  pub ids : b.ids ≡ ids_of (take n types)
  pub words : b.words ≡ spellings (data_of (map datum (take n values)))
  pub fits : BuiltFits (shape_at core) b

-- the types with which an actor set up so answers; none where it takes no such content
abbrev pub or_none : Option (List TypeId) → List TypeId
or_none (Some types) = types
or_none None = []

abbrev pub answer_of : Option Setup → List TypeId → List TypeId
answer_of (Some setup) types = or_none (result_for (interface_of setup.kind) types)
answer_of None types = []

-- the types with which the actor at the place answers
abbrev pub answer_types : List Setup → ℕ → List TypeId → List TypeId
answer_types places to types = answer_of (setup_at places to) types

-- a request has the number of its step as its tag, and expects what its receiver answers
abbrev pub planned_step : List Setup → ℕ → Step → planned.Step
planned_step places n (step.Tell to priority types values) = planned.Send (output.Tell to priority (content_for types values))
planned_step places n (step.Request to priority mode types values) = planned.Ask (output.Request to priority mode n (answer_types places to types) (content_for types values)) (answer_types places to types)
planned_step places n (step.Within to priority mode types values ticks) = planned.Ask (output.Within ticks to priority mode n (answer_types places to types) (content_for types values)) (answer_types places to types)
planned_step places n (step.Exit to reason) = planned.Send (output.Exit to reason)
planned_step places n step.Sync = planned.Sync
planned_step places n step.Tick = planned.Tick

-- the steps are numbered from 1
abbrev pub planned_from : List Setup → ℕ → List Step → List planned.Step
planned_from places n [] = []
planned_from places n (s ∷ steps) = planned_step places n s ∷ planned_from places (n + 1) steps

abbrev pub script_of : List Setup → List Step → Script
script_of places steps = record { plan = planned_from places 1 steps; expected = []; replies = replicate (length steps) reply.Unsent; ticks = 0; is_over = false }

-- so many places, from that one on
abbrev pub places_from : ℕ → ℕ → List ℕ
places_from p zero = []
places_from p (suc n) = p ∷ places_from (p + 1) n

-- the script has the first of the steps, and may play them
pub record PlannedSoFar (places : List Setup) (steps : List Step) (n : ℕ) (s : Script) : Type 0 where
  pub script : s ≡ script_of places (take n steps)
  pub plan : AllByRecursion (MayPlay (places_from 1 (length places))) s.plan

-- a conductor's peers are all others
abbrev pub conductor_of : Who → List Setup → List Step → Conducting
conductor_of who places steps = record { identity = record who { peers = places_from 1 (length places) }; script = script_of places steps }
