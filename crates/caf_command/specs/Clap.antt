-- The one simple command of `clap` that reads the words behind `run`.
use Rattle.std.specs.Prelude.{ℕ, List, [], ◌∷◌, Some, true, codes, unwrap_or, if◌then◌else◌}
use Rattle.std.specs.Str.{bytes_eq}
use Rattle.clap.specs.Walk.{Row, all_of}
use Rattle.clap.specs.Words.{App, Rule, Text, new_app, new_rule, with_rule}
use Rattle.clap.specs.declared.builder.action.ArgAction.TheVariants.{Set, SetTrue, Append}
use Rattle.caf_command.specs.declared.options.Valued.{Valued}
use Rattle.caf_command.specs.declared.options.Valued.TheVariants.{Scenario, Workers, Budget}

abbrev pub id_of : Valued → Text
id_of Scenario = codes "scenario"
id_of Workers = codes "workers"
id_of Budget = codes "max-messages"

abbrev pub valued : Valued → Rule
valued o = record (new_rule (id_of o)) { long = Some (id_of o); action = Some Set }

abbrev pub traced : Rule
traced = record (new_rule (codes "trace")) { long = Some (codes "trace"); action = Some SetTrue }

abbrev pub named : Rule
named = record (new_rule (codes "files")) { action = Some Append }

abbrev pub run_app : App
run_app =
    let a = new_app (codes "run") in
    let b = record a { top = record a.top { no_binary_name = true; disable_help_flag = true; disable_version_flag = true } } in
    with_rule (with_rule (with_rule (with_rule (with_rule b (valued Scenario)) (valued Workers)) (valued Budget)) traced) named

-- the values that the rows have under an id
abbrev pub vals : Text → List Row → List Text
vals id rows = unwrap_or (all_of id rows) []

-- whether `--trace` was there, as a number of times
abbrev pub traced_by : List Text → ℕ
traced_by [] = 0
traced_by (value ∷ values) = if bytes_eq value (codes "true") then 1 else 0
