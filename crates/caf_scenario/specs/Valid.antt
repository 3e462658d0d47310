-- Which bytes are a scenario, the first fault of those that aren't, and what those say that are.
use Rattle.std.specs.Prelude.{◌≡◌, ℕ, if◌then◌else◌, List, Option, Some, None, Ok, Err}
use Rattle.std.specs.Str.{is_utf8}
use Rattle.serde_json.specs.Data.{Data as Json}
use Rattle.serde_json.specs.Read.{read}
use Rattle.caf_scenario.specs.declared.scenario.Scenario.{Scenario}
use Rattle.caf_scenario.specs.Written.{Document}
use Rattle.caf_scenario.specs.DocumentForm.{document_of}
use Rattle.caf_scenario.specs.Many.{many_fault}
use Rattle.caf_scenario.specs.Actors.{Finder, actor_named, actors_fault}
use Rattle.caf_scenario.specs.Peers.{peers_fault}
use Rattle.caf_scenario.specs.Steps.{steps_fault}
use Rattle.caf_scenario.specs.Scenario.{IsSaid}
use Rattle.caf_scenario.specs.Read.{Cause, malformed, Read, or_else}

-- the JSON value that the bytes are, where they are one
unfoldable pub json_of : List ℕ → Option Json
json_of bytes = if is_utf8 bytes then read bytes else None

-- peers and targets are looked for among those
abbrev pub found_fault : Finder → Document → Option Cause
found_fault who d = or_else (peers_fault who d.actors) (steps_fault who d.script)

-- a document in form is looked through for numbers, then for its actors, their peers, and the steps
abbrev pub later_fault : Document → Option Cause
later_fault d = or_else (many_fault d) (or_else (actors_fault d.actors) (found_fault (actor_named d.actors) d))

abbrev pub written_fault : Read Document → Option Cause
written_fault (Err cause) = Some cause
written_fault (Ok d) = later_fault d

abbrev pub json_fault : Option Json → Option Cause
json_fault None = Some malformed
json_fault (Some json) = written_fault (document_of json)

-- the first fault of the first pass that has one
abbrev pub first_fault : List ℕ → Option Cause
first_fault bytes = json_fault (json_of bytes)

abbrev pub IsValidScenario : List ℕ → Type 0
IsValidScenario bytes = first_fault bytes ≡ None

-- the bytes are that document in form, which says the scenario
pub record IsScenarioOf (bytes : List ℕ) (scenario : Scenario) : Type 0 where
  pub json : Json
  pub is_json : json_of bytes ≡ Some json
  pub document : Document
  pub in_form : document_of json ≡ Ok document
  pub said : IsSaid document scenario
