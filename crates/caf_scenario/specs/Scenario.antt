-- The scenario that a document without faults says.
use Rattle.std.specs.Prelude.{◌≡◌, ℕ, zero, suc, ◌+◌, false, List, [], ◌∷◌, ◌++◌, length, map, Option, Some, None}
use Rattle.std.specs.List.{range_with_len}
use Rattle.caf_types.specs.declared.notice.Priority.{Priority}
use Rattle.caf_types.specs.declared.reason.Reason.{Reason}
use Rattle.caf_response.specs.declared.pending.Mode.{Mode}
use Rattle.caf_words.specs.Datum.{Data, data_of}
use Rattle.caf_words.specs.Several.{ids_of}
use Rattle.caf_words.specs.Value.{datum}
use Rattle.caf_kinds.specs.declared.setup.KindName.{KindName}
use Rattle.caf_kinds.specs.declared.setup.KindName.TheVariants as name
use Rattle.caf_kinds.specs.declared.setup.Setup.{Setup}
use Rattle.caf_kinds.specs.declared.script.Step.{Step}
use Rattle.caf_kinds.specs.declared.script.Step.TheVariants as step
use Rattle.caf_scenario.specs.declared.scenario.Scenario.{Scenario}
use Rattle.caf_scenario.specs.declared.written.Way.{Way}
use Rattle.caf_scenario.specs.declared.written.Way.TheVariants as way
use Rattle.caf_scenario.specs.declared.written.WrittenActor.{WrittenActor}
use Rattle.caf_scenario.specs.Written.{StepText, send, exit, sync, tick, Document}
use Rattle.caf_scenario.specs.Many.{all_children}
use Rattle.caf_scenario.specs.Actors.{Finder, kind_of, actor_named}
use Rattle.caf_scenario.specs.Elements.{elements_of, ids_in, values_in}

-- ---- places

abbrev pub place_in : Option (ℕ × KindName) → ℕ
place_in None = 0
place_in (Some found) = found.0

-- the place of the actor of that name
abbrev pub place_of : Finder → List ℕ → ℕ
place_of who name = place_in (who name)

-- ---- setups

-- that of an actor, where the first of its reserved places is that one
abbrev pub setup_said : Finder → ℕ → WrittenActor → Setup
setup_said who first a = record {
  kind = kind_of a;
  peers = map (place_of who) a.peers;
  asleep = a.asleep;
  reserve = range_with_len first a.children;
}

-- each actor's reserved places follow those of the actors before it
abbrev pub setups_said : Finder → ℕ → List WrittenActor → List Setup
setups_said who first [] = []
setups_said who first (a ∷ others) = setup_said who first a ∷ setups_said who (first + a.children) others

abbrev pub child : Setup
child = record { kind = name.Calc; peers = []; asleep = false; reserve = [] }

abbrev pub children : ℕ → List Setup
children zero = []
children (suc n) = child ∷ children n

-- ---- steps

-- a step, with its message as it is seen
pub data PlainStep : Type 0 where
  tell : ℕ → Priority → List ℕ → Data → PlainStep
  request : ℕ → Priority → Mode → List ℕ → Data → PlainStep
  within : ℕ → Priority → Mode → List ℕ → Data → ℕ → PlainStep
  exits : ℕ → Reason → PlainStep
  syncs : PlainStep
  ticks : PlainStep

abbrev pub plain_step : Step → PlainStep
plain_step (step.Tell to priority types values) = tell to priority (ids_of types) (data_of (map datum values))
plain_step (step.Request to priority mode types values) = request to priority mode (ids_of types) (data_of (map datum values))
plain_step (step.Within to priority mode types values after) = within to priority mode (ids_of types) (data_of (map datum values)) after
plain_step (step.Exit to reason) = exits to reason
plain_step step.Sync = syncs
plain_step step.Tick = ticks

abbrev pub sent_said : Way → ℕ → Priority → List ℕ → Data → PlainStep
sent_said way.Tell to priority types values = tell to priority types values
sent_said (way.Request mode) to priority types values = request to priority mode types values
sent_said (way.Within mode after) to priority types values = within to priority mode types values after

abbrev pub step_said : Finder → StepText → PlainStep
step_said who (send way to message priority) = sent_said way (place_of who to) priority (ids_in (elements_of message)) (values_in (elements_of message))
step_said who (exit to reason) = exits (place_of who to) reason
step_said who sync = syncs
step_said who tick = ticks

-- ---- the scenario

-- what the actors and their steps say; the setups of reserved places follow those of the actors
pub record IsSaidBy (who : Finder) (d : Document) (scenario : Scenario) : Type 0 where
  pub names : scenario.names ≡ map (λ (a : WrittenActor). a.name) d.actors
  pub setups : scenario.setups ≡ setups_said who (length d.actors + 1) d.actors ++ children (all_children d.actors)
  pub script : map plain_step scenario.script ≡ map (step_said who) d.script

abbrev pub IsSaid : Document → Scenario → Type 0
IsSaid d scenario = IsSaidBy (actor_named d.actors) d scenario
