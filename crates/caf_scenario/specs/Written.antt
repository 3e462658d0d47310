-- What a document in form says: its actors and its steps, as they are written.
use Rattle.std.specs.Prelude.{ℕ, List, map}
use Rattle.serde_json.specs.Data.{Data as Json}
use Rattle.serde_json.specs.View.{view}
use Rattle.caf_types.specs.declared.notice.Priority.{Priority}
use Rattle.caf_types.specs.declared.reason.Reason.{Reason}
use Rattle.caf_scenario.specs.declared.written.Way.{Way}
use Rattle.caf_scenario.specs.declared.written.WrittenActor.{WrittenActor}
use Rattle.caf_scenario.specs.declared.written.WrittenStep.{WrittenStep}
use Rattle.caf_scenario.specs.declared.written.WrittenStep.TheVariants as step
use Rattle.caf_scenario.specs.declared.written.Written.{Written}

-- a step, with the elements of its message as they are
pub data StepText : Type 0 where
  send : Way → List ℕ → List Json → Priority → StepText
  exit : List ℕ → Reason → StepText
  sync : StepText
  tick : StepText

pub record Document : Type 0 where
  pub actors : List WrittenActor
  pub script : List StepText

abbrev pub step_seen : WrittenStep → StepText
step_seen (step.Send way to message priority) = send way to (map view message.now) priority
step_seen (step.Exit to reason) = exit to reason
step_seen step.Sync = sync
step_seen step.Tick = tick

abbrev pub document_seen : Written → Document
document_seen w = record { actors = w.actors; script = map step_seen w.script }
