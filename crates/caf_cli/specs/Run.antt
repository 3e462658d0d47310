-- What the command `run` promises of its end.
use Rattle.std.specs.Prelude.{◌≡◌, ◌⊎◌, ℕ, ◌<◌, ◌≤◌, List, length, Option, Some, None}
use Rattle.caf_io.specs.Files.{Content}
use Rattle.caf_command.specs.declared.run_words.RunWords.{RunWords}
use Rattle.caf_record.specs.declared.run_record.RunRecord.{RunRecord}
use Rattle.caf_play.specs.declared.played.Played.{Played}
use Rattle.caf_play.specs.declared.played.PlayEnd.{PlayEnd}
use Rattle.caf_play.specs.declared.played.PlayEnd.TheVariants as play
use Rattle.caf_scenario.specs.declared.scenario.Scenario.{Scenario}
use Rattle.caf_cli.specs.Ends.{HasTried}
use Rattle.caf_cli.specs.Play.{IsPlay}
use Rattle.caf_cli.specs.Promises.{IsChosen, run_text, KeepsWord}
use Rattle.caf_cli.specs.Reading.{IsRefused, IsCorpus, HasNoCorpus, NamesManyFiles}
use Rattle.caf_cli.specs.declared.end.End.{End}
use Rattle.caf_cli.specs.declared.end.End.TheVariants.{Done, Write, Memory, Budget, Exhausted}

-- ---- the scenario

abbrev pub NoneIsChosen : Option Content → Option (List ℕ) → End → Type 0
NoneIsChosen told (Some name) end = IsRefused told name end
NoneIsChosen told None end = end ≡ Memory

-- ---- the play

-- the play is one of that scenario, over the files that the words name, and its record keeps the product's word
pub record IsRun (told : Option Content) (words : RunWords) (scenario : Scenario) (played : Played) : Type 0 where
  pub chosen : IsChosen told words.scenario scenario
  pub corpus : List (List ℕ)
  pub reads : IsCorpus told words.files corpus
  pub play : IsPlay scenario corpus words.budget played
  pub word : KeepsWord words scenario corpus played

-- why there is none, in the order in which it is looked for
abbrev pub IsNotRun : Option Content → RunWords → End → Type 0
IsNotRun told words end =
    NamesManyFiles words.files end
    ⊎ ((length words.files ≤ 1024) × NoneIsChosen told words.scenario end)
    ⊎ ((scenario : Scenario) × IsChosen told words.scenario scenario × HasNoCorpus told words.files end)
    ⊎ (end ≡ Memory)

-- ---- the text

-- how the play is told: its record is kept, and where it is complete, writing its text ended so
abbrev pub IsTold : RunWords → Scenario → Played → (kept : Option RunRecord) (before now : Option (List ℕ)) → End → Type 0
IsTold words scenario played kept before now Done = (played.end ≡ play.Done) × (kept ≡ Some played.kept) × HasTried (run_text words scenario played) before now Done
IsTold words scenario played kept before now Write = (played.end ≡ play.Done) × (kept ≡ Some played.kept) × HasTried (run_text words scenario played) before now Write
IsTold words scenario played kept before now Budget = (played.end ≡ play.Budget) × (kept ≡ Some played.kept)
IsTold words scenario played kept before now (Exhausted place) = (played.end ≡ play.Exhausted place) × (kept ≡ Some played.kept)
IsTold words scenario played kept before now Memory = kept ≡ None
IsTold words scenario played kept before now _ = ⊥

-- ---- all of it

-- a scenario was played over the files, and this is how it is told
pub record HasRun (told : Option Content) (words : RunWords) (kept : Option RunRecord) (before now : Option (List ℕ)) (end : End) : Type 0 where
  pub scenario : Scenario
  pub played : Played
  pub run : IsRun told words scenario played
  pub told_so : IsTold words scenario played kept before now end

-- either that, or there is no run, and nothing is kept
abbrev pub RunEnds : Option Content → RunWords → (kept : Option RunRecord) (before now : Option (List ℕ)) → End → Type 0
RunEnds told words kept before now end = HasRun told words kept before now end ⊎ ((kept ≡ None) × IsNotRun told words end)
