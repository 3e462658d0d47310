-- What is written of a complete undisturbed run.
use Rattle.std.specs.Prelude.{◌≡◌, ℕ, zero, suc, ◌+◌, ◌-◌, ◌<◌, Bool, List, [], ◌∷◌, ◌++◌, length, slice_get, Some}
use Rattle.caf_types.specs.Table.{Table}
use Rattle.caf_actor.specs.declared.snapshot.Snapshot.{Snapshot}
use Rattle.caf_actor.specs.Record.{Kept, machine_of, ends}
use Rattle.caf_actor.specs.Run.{Turn}
use Rattle.caf_index.specs.IndexText.{index_text_of}
use Rattle.caf_index.specs.PlainIndex.{plain_index_of}
use Rattle.caf_kinds.specs.Contents.{total_means}
use Rattle.caf_kinds.specs.Kinds.{kind_rules}
use Rattle.caf_kinds.specs.declared.kind.Kind.{Kind}
use Rattle.caf_kinds.specs.declared.script.Step.{Step}
use Rattle.caf_kinds.specs.declared.setup.Setup.{Setup}
use Rattle.caf_record.specs.declared.run_record.RunRecord.{RunRecord}
use Rattle.caf_report.specs.Lines.{value_line}
use Rattle.caf_report.specs.Report.{text_of, trace_part}
use Rattle.caf_report.specs.Values.{values_text}
use Rattle.caf_pipeline.specs.Answered.{total_in, spelled}
use Rattle.caf_pipeline.specs.Complete.{IsCompleteRecord}

-- they are the behaviours with which the places end
abbrev pub AreEnds : Kept (Snapshot Kind) → List Kind → Type 0
AreEnds k kinds = (place : ℕ) → place < k.places → slice_get kinds place ≡ Some (ends (machine_of kind_rules) k place).behavior

-- a line for each of so many steps behind so many others: the files' lines and bytes, of the type 204
abbrev pub totals_lines : Table → List (List ℕ) → ℕ → ℕ → List ℕ
totals_lines table files before zero = []
totals_lines table files before (suc more) = value_line (before + 1) (values_text table (204 ∷ []) (spelled (total_means (total_in files)))) ++ totals_lines table files (before + 1) more

-- the text of the files' plain index, a line for each request for totals, and the trace where it is wanted
abbrev pub CompleteTextHasIndex : Type 0
CompleteTextHasIndex = (setups : List Setup) (script : List Step) (files : List (List ℕ)) (k : Kept (Snapshot Kind)) (ts : List Turn) (table : Table) (names : List (List ℕ)) (kinds : List Kind) (kept : RunRecord) (is_traced : Bool)
    → IsCompleteRecord setups script files k ts → AreEnds k kinds
    → text_of table script names kinds kept is_traced ≡ (index_text_of names (plain_index_of files) ++ totals_lines table files 2 (length script - 2)) ++ trace_part is_traced kept
