-- What a run that was played keeps.
use Rattle.std.specs.Prelude.{◌≡◌, ◌≢◌, ℕ, ◌-◌, ◌<◌, ◌≤◌, ◌^◌, List, ◌++◌, length, Option, Some, None}
use Rattle.caf_io.specs.Files.{Content}
use Rattle.caf_command.specs.declared.run_words.RunWords.{RunWords}
use Rattle.caf_corpus.specs.Corpus.{IsWithin}
use Rattle.caf_actor.specs.declared.snapshot.Snapshot.{Snapshot}
use Rattle.caf_actor.specs.Merge.{IsMerge}
use Rattle.caf_actor.specs.Record.{IsLegal}
use Rattle.caf_actor.specs.Run.{Turn}
use Rattle.caf_driver.specs.Opening.{StartsAt}
use Rattle.caf_headline.specs.Promises.{KeepsPromises}
use Rattle.caf_index.specs.IndexText.{index_text_of}
use Rattle.caf_index.specs.PlainIndex.{plain_index_of}
use Rattle.caf_kinds.specs.Core.{core}
use Rattle.caf_kinds.specs.FileChunks.{AreByteLists}
use Rattle.caf_kinds.specs.declared.kind.Kind.{Kind}
use Rattle.caf_opening.specs.Opening.{opening_of}
use Rattle.caf_pipeline.specs.Contents.{AreIndexable}
use Rattle.caf_pipeline.specs.Numbers.{enough}
use Rattle.caf_pipeline.specs.Text.{totals_lines}
use Rattle.caf_pipeline.specs.Undisturbed.{IsUndisturbed}
use Rattle.caf_play.specs.Ending.{machine, ticks_of}
use Rattle.caf_play.specs.declared.played.Played.{Played}
use Rattle.caf_play.specs.declared.played.PlayEnd.TheVariants as play
use Rattle.caf_record.specs.RunRecord.{record_of}
use Rattle.caf_report.specs.Report.{text_of, trace_part}
use Rattle.caf_scenario.specs.Builtin.{IsBuiltin}
use Rattle.caf_scenario.specs.declared.scenario.Scenario.{Scenario}
use Rattle.caf_soundness.specs.Typed.{IsWellTyped}
use Rattle.caf_cli.specs.Play.{IsPlay}
use Rattle.caf_cli.specs.Reading.{IsReadFrom}

-- ---- the scenario

-- it is the one in the file of this name, or the built-in one over four counters
abbrev pub IsChosen : Option Content → Option (List ℕ) → Scenario → Type 0
IsChosen told (Some name) scenario = IsReadFrom told name scenario
IsChosen told None scenario = IsBuiltin 4 scenario

-- ---- what holds of its record

abbrev pub run_text : RunWords → Scenario → Played → List ℕ
run_text words scenario played = text_of core scenario.script words.files played.kinds played.kept words.is_traced

-- of the record over the snapshots with which the scenario's actors begin, whatever merge of its batches one takes
pub record KeepsWord (words : RunWords) (scenario : Scenario) (files : List (List ℕ)) (played : Played) : Type 0 where
  pub indexable : AreIndexable files
  -- no content meets an actor that doesn't take it, and no response has other types than were declared
  pub typed : (start : ℕ → Snapshot Kind) (ticks : ℕ) (ts : List Turn) → StartsAt start (opening_of scenario.setups scenario.script files)
      → IsLegal machine ticks (record_of start played.kept) → IsMerge (record_of start played.kept) ts → IsWellTyped scenario.setups ticks (record_of start played.kept) ts
  -- a complete record is a run of the actor machine; every message sent was taken once, as sent, in order per sender;
  -- none was handled after quitting; every request resolved exactly once; and an undisturbed scenario's index is the
  -- files' plain index
  pub promises : played.end ≡ play.Done → (start : ℕ → Snapshot Kind) (ts : List Turn) → StartsAt start (opening_of scenario.setups scenario.script files)
      → IsMerge (record_of start played.kept) ts → KeepsPromises scenario.setups scenario.script files (ticks_of scenario.script) (record_of start played.kept) ts
  -- of an undisturbed scenario the text is that of the plain index of the files, with their lines and bytes behind it
  -- for each request for totals
  pub index_text : IsUndisturbed scenario.setups scenario.script → played.end ≡ play.Done
      → run_text words scenario played ≡ (index_text_of words.files (plain_index_of files) ++ totals_lines core files 2 (length scenario.script - 2)) ++ trace_part words.is_traced played.kept
  -- and its budget isn't spent, where it is 8 for each chunk of the files, 16 for each place and 2 for each step
  pub in_budget : IsUndisturbed scenario.setups scenario.script → enough scenario.setups scenario.script files ≤ words.budget → played.end ≢ play.Budget

-- so it is with each play of a chosen scenario over files within the limits
abbrev pub RunsKeepTheirWord : Type 0
RunsKeepTheirWord = (told : Option Content) (words : RunWords) (scenario : Scenario) (files : List (List ℕ)) (played : Played)
    → IsChosen told words.scenario scenario → IsWithin files → AreByteLists files → length files < 2 ^ 64
    → IsPlay scenario files words.budget played → KeepsWord words scenario files played
