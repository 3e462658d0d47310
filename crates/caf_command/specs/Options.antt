-- The options of `run` that have a value.
use Rattle.std.specs.Prelude.{ℕ, List, Option, Some, None, codes, if◌then◌else◌}
use Rattle.std.specs.Str.{bytes_eq}
use Rattle.caf_command.specs.declared.options.Valued.{Valued}
use Rattle.caf_command.specs.declared.options.Valued.TheVariants.{Scenario, Workers, Budget}

-- how an option is written
abbrev pub name_of : Valued → List ℕ
name_of Scenario = codes "--scenario"
name_of Workers = codes "--workers"
name_of Budget = codes "--max-messages"

-- the option that is written so
abbrev pub valued_named : List ℕ → Option Valued
valued_named text = if bytes_eq text (codes "--scenario") then Some Scenario
    else (if bytes_eq text (codes "--workers") then Some Workers
    else (if bytes_eq text (codes "--max-messages") then Some Budget
    else None))
