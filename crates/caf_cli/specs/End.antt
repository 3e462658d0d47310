-- How a run of the program ends: its exit status, and the line on standard error.
use Rattle.std.specs.Prelude.{ℕ, Bool, true, false, List, [], ◌∷◌, ◌++◌, codes}
use Rattle.std.specs.Fmt.{decimal}
use Rattle.caf_scenario.specs.declared.fault.ScenarioFault.{ScenarioFault}
use Rattle.caf_scenario.specs.declared.fault.ScenarioFault.TheVariants as fault
use Rattle.caf_cli.specs.declared.end.End.{End}
use Rattle.caf_cli.specs.declared.end.End.TheVariants.{Done, Usage, Scenario, Read, Limit, Write, Memory, Budget, Exhausted}
use Rattle.caf_cli.specs.declared.end.LimitKind.{LimitKind}
use Rattle.caf_cli.specs.declared.end.LimitKind.TheVariants as limit

-- the exit status
abbrev pub status_of : End → ℕ
status_of Done = 0
status_of Usage = 1
status_of (Scenario why) = 2
status_of (Read name) = 3
status_of (Limit kind file line) = 4
status_of Write = 5
status_of Memory = 6
status_of Budget = 7
status_of (Exhausted place) = 8

-- a text, and the line end
abbrev pub line : List ℕ → List ℕ
line text = text ++ 10 ∷ []

-- why a scenario is refused; of two names the first is the one that asks, which is named last
abbrev pub fault_text : ScenarioFault → List ℕ
fault_text fault.Malformed = codes "not JSON"
fault_text (fault.Field path) = codes "field " ++ path
fault_text (fault.Kind kind) = codes "kind " ++ kind
fault_text (fault.Twice name) = codes "name " ++ (name ++ codes " twice")
fault_text (fault.Unknown name) = codes "unknown " ++ name
fault_text (fault.Interface of target) = codes "interface of " ++ (target ++ (codes " for " ++ of))
fault_text fault.Many = codes "too many"
fault_text fault.Memory = codes "out of memory"

-- which limit was passed, and where
abbrev pub limit_text : LimitKind → ℕ → ℕ → List ℕ
limit_text limit.Files file number = codes "over 1024 files"
limit_text limit.Scenario file number = codes "scenario over 1048576 bytes"
limit_text limit.Line file number = codes "line " ++ (decimal number ++ (codes " of file " ++ (decimal file ++ codes " over 1048576 bytes")))
limit_text limit.Corpus file number = codes "corpus over 67108864 bytes in file " ++ (decimal file ++ (codes " line " ++ decimal number))

-- the line that is said of the end; nothing of a run that went well
abbrev pub end_text : End → List ℕ
end_text Done = []
end_text Usage = line (codes "caf: the words are not understood")
end_text (Scenario why) = line (codes "caf: scenario: " ++ fault_text why)
end_text (Read name) = line (codes "caf: cannot read " ++ name)
end_text (Limit kind file number) = line (codes "caf: limit: " ++ limit_text kind file number)
end_text Write = line (codes "caf: cannot write")
end_text Memory = line (codes "caf: out of memory")
end_text Budget = line (codes "caf: message budget spent")
end_text (Exhausted place) = codes "caf: stamps of place " ++ (decimal place ++ line (codes " used up"))

-- whether the sink was written to before this end
abbrev pub has_written : End → Bool
has_written Done = true
has_written Write = true
has_written _ = false
