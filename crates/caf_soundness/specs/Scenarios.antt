-- Scenarios without faults are well typed.
use Rattle.std.specs.Prelude.{ℕ, ◌≤◌, List}
use Rattle.caf_scenario.specs.Builtin.{IsBuiltin}
use Rattle.caf_scenario.specs.Valid.{IsValidScenario, IsScenarioOf}
use Rattle.caf_scenario.specs.declared.scenario.Scenario.{Scenario}
use Rattle.caf_typing.specs.Opens.{HaveShortLines}
use Rattle.caf_soundness.specs.Typed.{IsAlwaysWellTyped}

-- each legal record of what bytes without a fault say is well typed, over any files with short lines
abbrev pub ValidScenarioIsWellTyped : Type 0
ValidScenarioIsWellTyped = (bytes : List ℕ) (scenario : Scenario) (files : List (List ℕ)) → IsValidScenario bytes → IsScenarioOf bytes scenario
    → HaveShortLines files → IsAlwaysWellTyped scenario.setups scenario.script files

-- so is each one of the built-in scenario over as many counters as there may be
abbrev pub BuiltinIsWellTyped : Type 0
BuiltinIsWellTyped = (counters : ℕ) (scenario : Scenario) (files : List (List ℕ)) → 1 ≤ counters → counters ≤ 200 → IsBuiltin counters scenario
    → HaveShortLines files → IsAlwaysWellTyped scenario.setups scenario.script files
