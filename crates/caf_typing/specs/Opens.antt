-- Scenarios without faults can be played.
use Rattle.std.specs.Prelude.{◌≡◌, ◌≤◌, ℕ, List, true}
use Rattle.std.specs.List.{AllByRecursion}
use Rattle.caf_kinds.specs.Starting.{has_short_lines}
use Rattle.caf_opening.specs.Opening.{CanOpen, SparesConductor}
use Rattle.caf_scenario.specs.Builtin.{IsBuiltin}
use Rattle.caf_scenario.specs.Valid.{IsValidScenario, IsScenarioOf}
use Rattle.caf_scenario.specs.declared.scenario.Scenario.{Scenario}

abbrev pub HaveShortLines : List (List ℕ) → Type 0
HaveShortLines files = AllByRecursion (λ bytes. has_short_lines 0 bytes ≡ true) files

-- what bytes without a fault say can be opened over any files with short lines
abbrev pub ValidScenarioOpens : Type 0
ValidScenarioOpens = (bytes : List ℕ) (scenario : Scenario) (files : List (List ℕ)) → IsValidScenario bytes → IsScenarioOf bytes scenario
    → HaveShortLines files → CanOpen scenario.setups scenario.script files

-- so can the built-in scenario over as many counters as there may be
abbrev pub BuiltinOpens : Type 0
BuiltinOpens = (counters : ℕ) (scenario : Scenario) (files : List (List ℕ)) → 1 ≤ counters → counters ≤ 200 → IsBuiltin counters scenario
    → HaveShortLines files → CanOpen scenario.setups scenario.script files

-- in neither has any actor the conductor as a peer or as a child
abbrev pub ScenariosSpareConductor : Type 0
ScenariosSpareConductor =
    ((bytes : List ℕ) (scenario : Scenario) → IsValidScenario bytes → IsScenarioOf bytes scenario → SparesConductor scenario.setups)
    × ((counters : ℕ) (scenario : Scenario) → IsBuiltin counters scenario → SparesConductor scenario.setups)
