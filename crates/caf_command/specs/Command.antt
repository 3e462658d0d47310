-- Which command the words of the command line ask for.
use Rattle.std.specs.Prelude.{◌≡◌, ◌≢◌, ◌<◌, ◌⊎◌, ℕ, true, List, [], ◌∷◌, length, Option, Some, None, IsSome, codes, if◌then◌else◌}
use Rattle.std.specs.List.{list_all}
use Rattle.caf_command.specs.Words.{is_plain}
use Rattle.caf_command.specs.Number.{IsNumberIn}
use Rattle.caf_command.specs.Parts.{AreParts, values_of, traces_of, files_of}
use Rattle.caf_command.specs.declared.options.Valued.TheVariants.{Scenario, Workers, Budget}
use Rattle.caf_command.specs.Part.{Part}
use Rattle.caf_command.specs.declared.given.Given.{Given}
use Rattle.caf_command.specs.declared.run_words.RunWords.{RunWords}
use Rattle.caf_command.specs.declared.command.Command.{Command}
use Rattle.caf_command.specs.declared.command.Command.TheVariants.{Run, Check, Plain, Make}

-- at most one value
abbrev pub listed : Option (List ℕ) → List (List ℕ)
listed None = []
listed (Some value) = value ∷ []

-- the one value is the number, which is from 1 to `most`; where there is no value, the number is `otherwise`
abbrev pub IsNumberOr : (most otherwise : ℕ) (values : List (List ℕ)) (n : ℕ) → Type 0
IsNumberOr most otherwise [] n = n ≡ otherwise
IsNumberOr most otherwise (text ∷ []) n = IsNumberIn 1 most text n
IsNumberOr most otherwise (text ∷ again ∷ more) n = ⊥

-- these values of the three options, so many times `--trace`, and these files ask for the run
pub record IsRun (scenarios workers budgets : List (List ℕ)) (traces : ℕ) (files : List (List ℕ)) (run : RunWords) : Type 0 where
  pub scenario : scenarios ≡ listed run.scenario
  pub worker_count : IsNumberOr 64 4 workers run.workers
  pub message_count : IsNumberOr 4294967296 10000000 budgets run.budget
  pub trace : traces ≡ (if run.is_traced then 1 else 0)
  pub file_names : run.files ≡ files
  pub has_file : IsSome run.scenario ⊎ (0 < length files)

-- what was filed asks for the run
abbrev pub IsGiven : Given → RunWords → Type 0
IsGiven given run = IsRun given.scenarios given.workers given.budgets given.traces given.files run

-- the words behind `run` ask for the run: they are parts, in any order, of which each option is at most one
abbrev pub AsksRun : (words : List (List ℕ)) → RunWords → Type 0
AsksRun words run = (parts : List Part) × AreParts parts words
    × IsRun (values_of Scenario parts) (values_of Workers parts) (values_of Budget parts) (traces_of parts) (files_of parts) run

-- names of files, at least one
abbrev pub AreFiles : (words : List (List ℕ)) → Type 0
AreFiles words = (words ≢ []) × (list_all is_plain words ≡ true)

-- the words ask for the command
abbrev pub AsksFor : (words : List (List ℕ)) → Command → Type 0
AsksFor words (Run run) = (behind : List (List ℕ)) × (words ≡ codes "run" ∷ behind) × AsksRun behind run
AsksFor words (Check file) = (words ≡ codes "check" ∷ file ∷ []) × (is_plain file ≡ true)
AsksFor words (Plain files) = (words ≡ codes "plain" ∷ files) × AreFiles files
AsksFor words (Make lines) = (number : List ℕ) × (words ≡ codes "make" ∷ number ∷ []) × IsNumberIn 1 100000 number lines
