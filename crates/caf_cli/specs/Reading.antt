-- What is read before anything is done, and why it isn't.
use Rattle.std.specs.Prelude.{◌≡◌, ℕ, ◌<◌, ◌≤◌, List, length, Option, Some, IfSome, All, Contains}
use Rattle.std.specs.List.{AllZip}
use Rattle.caf_io.specs.Files.{Content, told_file, IsThere}
use Rattle.caf_corpus.specs.Corpus.{IsFileOf, IsWithin, PassesFirst}
use Rattle.caf_corpus.specs.declared.scan.Passed.TheVariants as passed
use Rattle.caf_scenario.specs.Read.{HasCause, cause_of}
use Rattle.caf_scenario.specs.Valid.{IsValidScenario, IsScenarioOf, first_fault}
use Rattle.caf_scenario.specs.declared.fault.ScenarioFault.{ScenarioFault}
use Rattle.caf_scenario.specs.declared.scenario.Scenario.{Scenario}
use Rattle.caf_cli.specs.declared.end.End.{End}
use Rattle.caf_cli.specs.declared.end.End.TheVariants.{Scenario as ScenarioEnd, Read, Limit, Memory}
use Rattle.caf_cli.specs.declared.end.LimitKind.TheVariants as limit

-- ---- a scenario

-- the bytes are the file's of this name, and no more than a scenario may have
pub record IsShortFile (told : Option Content) (name bytes : List ℕ) : Type 0 where
  pub file_is : IsFileOf told name bytes
  pub there : IsThere told name
  pub short : length bytes ≤ 1048576

-- the file is a scenario, which this is
pub record IsReadFrom (told : Option Content) (name : List ℕ) (scenario : Scenario) : Type 0 where
  pub bytes : List ℕ
  pub reads : IsShortFile told name bytes
  pub valid : IsValidScenario bytes
  pub said : IsScenarioOf bytes scenario

-- the file has that first fault
pub record HasFault (told : Option Content) (name : List ℕ) (why : ScenarioFault) : Type 0 where
  pub bytes : List ℕ
  pub reads : IsShortFile told name bytes
  pub has_cause : HasCause why
  pub first : first_fault bytes ≡ Some (cause_of why)

-- why the file isn't read whole
abbrev pub CannotRead : Option Content → (name : List ℕ) → End → Type 0
CannotRead told name (Read other) = other ≡ name
CannotRead told name (Limit limit.Scenario file line) = (file ≡ 0) × (line ≡ 0) × IfSome (told_file told name) (λ bytes. 1048576 < length bytes)
CannotRead told name Memory = Unit {0}
CannotRead told name _ = ⊥

-- why it gives no scenario
abbrev pub IsRefused : Option Content → (name : List ℕ) → End → Type 0
IsRefused told name (ScenarioEnd why) = HasFault told name why
IsRefused told name end = CannotRead told name end

-- ---- the files of a command

-- the bytes are those of the files of these names, which keep within all limits
pub record IsCorpus (told : Option Content) (names corpus : List (List ℕ)) : Type 0 where
  pub few : length names ≤ 1024
  pub bytes : AllZip (IsFileOf told) names corpus
  pub there : All (IsThere told) names
  pub within : IsWithin corpus

-- why they aren't read whole
abbrev pub HasNoCorpus : Option Content → (names : List (List ℕ)) → End → Type 0
HasNoCorpus told names (Read name) = Contains names name
HasNoCorpus told names (Limit limit.Line file line) = (length names ≤ 1024) × PassesFirst told names file (passed.Line line)
HasNoCorpus told names (Limit limit.Corpus file line) = (length names ≤ 1024) × PassesFirst told names file (passed.Corpus line)
HasNoCorpus told names Memory = Unit {0}
HasNoCorpus told names _ = ⊥

-- they are more than a command may name
abbrev pub NamesManyFiles : (names : List (List ℕ)) → End → Type 0
NamesManyFiles names end = (end ≡ Limit limit.Files 0 0) × (1024 < length names)
