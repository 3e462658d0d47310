-- What the commands `plain` and `check` promise of their ends.
use Rattle.std.specs.Prelude.{◌≡◌, ◌⊎◌, ℕ, List, ◌++◌, length, codes, decimal, Option}
use Rattle.caf_io.specs.Files.{Content}
use Rattle.caf_index.specs.IndexText.{index_text_of}
use Rattle.caf_index.specs.PlainIndex.{plain_index_of}
use Rattle.caf_scenario.specs.declared.scenario.Scenario.{Scenario}
use Rattle.caf_cli.specs.End.{line}
use Rattle.caf_cli.specs.Ends.{HasTried}
use Rattle.caf_cli.specs.Reading.{IsReadFrom, IsRefused, IsCorpus, HasNoCorpus, NamesManyFiles}
use Rattle.caf_cli.specs.declared.end.End.{End}
use Rattle.caf_cli.specs.declared.end.End.TheVariants.{Memory}

-- ---- plain

-- the files were read, and writing the text of their plain index ended so
pub record HasIndexed (told : Option Content) (names : List (List ℕ)) (before now : Option (List ℕ)) (end : End) : Type 0 where
  pub corpus : List (List ℕ)
  pub reads : IsCorpus told names corpus
  pub tried : HasTried (index_text_of names (plain_index_of corpus)) before now end

abbrev pub PlainEnds : Option Content → (names : List (List ℕ)) (before now : Option (List ℕ)) → End → Type 0
PlainEnds told names before now end = HasIndexed told names before now end ⊎ NamesManyFiles names end ⊎ HasNoCorpus told names end

-- ---- check

-- the children of its actors are not counted
abbrev pub check_text : Scenario → List ℕ
check_text scenario = line (codes "valid: " ++ (decimal (length scenario.names) ++ (codes " actors, " ++ (decimal (length scenario.script) ++ codes " steps"))))

-- the file is a scenario, and writing its numbers ended so
pub record HasChecked (told : Option Content) (name : List ℕ) (before now : Option (List ℕ)) (end : End) : Type 0 where
  pub scenario : Scenario
  pub reads : IsReadFrom told name scenario
  pub tried : HasTried (check_text scenario) before now end

abbrev pub CheckEnds : Option Content → (name : List ℕ) (before now : Option (List ℕ)) → End → Type 0
CheckEnds told name before now end = HasChecked told name before now end ⊎ IsRefused told name end ⊎ (end ≡ Memory)
