-- Targets that nobody is, messages that are none, and targets that don't take what they are sent.
use Rattle.std.specs.Prelude.{ℕ, codes, not, List, Option, Some, None, is_some}
use Rattle.serde_json.specs.Data.{Data as Json}
use Rattle.caf_actor.specs.Rules.{is_input}
use Rattle.caf_kinds.specs.declared.setup.KindName.{KindName}
use Rattle.caf_kinds.specs.Kinds.{interface_of}
use Rattle.caf_scenario.specs.Path.{at_member, at_position, step_path}
use Rattle.caf_scenario.specs.Written.{StepText, send, exit, sync, tick}
use Rattle.caf_scenario.specs.Actors.{Finder, conductor}
use Rattle.caf_scenario.specs.Elements.{element_of, elements_of, ids_in, is_large}
use Rattle.caf_scenario.specs.First.{first_of}
use Rattle.caf_scenario.specs.Read.{Cause, field, unknown, interface, or_else, unless}

-- an element of the message at that path
abbrev pub element_fault : List ℕ → ℕ → Json → Option Cause
element_fault path i json = unless (is_some (element_of json)) (field (at_position path i))

-- of the message of the step at that path, to that target
abbrev pub message_fault : List ℕ → List ℕ → List Json → KindName → Option Cause
message_fault path to message kind =
    or_else (first_of (element_fault (at_member path (codes "message"))) 0 message) (
    or_else (unless (not (is_large (elements_of message))) (field (at_member path (codes "message"))))
    (unless (is_input (interface_of kind) (ids_in (elements_of message))) (interface conductor to)))

abbrev pub sent_fault : List ℕ → List ℕ → List Json → Option (ℕ × KindName) → Option Cause
sent_fault path to message None = Some (unknown to)
sent_fault path to message (Some found) = message_fault path to message found.1

-- of the step at that position
abbrev pub step_fault : Finder → ℕ → StepText → Option Cause
step_fault who i (send way to message priority) = sent_fault (step_path i) to message (who to)
step_fault who i (exit to reason) = unless (is_some (who to)) (unknown to)
step_fault who i sync = None
step_fault who i tick = None

abbrev pub steps_fault : Finder → List StepText → Option Cause
steps_fault who steps = first_of (step_fault who) 0 steps
