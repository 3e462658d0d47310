-- What the requests of an undisturbed script are answered by.
use Rattle.std.specs.Prelude.{◌≡◌, ℕ, ◌≤◌, ◌<◌, List, length, slice_get, Some}
use Rattle.std.specs.FinMap as finite
use Rattle.std.specs.List.{sum_by}
use Rattle.caf_words.specs.Datum.{Datum, more, no_data}
use Rattle.caf_words.specs.Spelling.{spellings}
use Rattle.caf_actor.specs.declared.snapshot.Snapshot.{Snapshot}
use Rattle.caf_actor.specs.Record.{Kept, machine_of, IsAtRest, ends}
use Rattle.caf_actor.specs.Run.{Turn}
use Rattle.caf_index.specs.Chunks.{lines_of}
use Rattle.caf_index.specs.Index.{Entries, entry_count}
use Rattle.caf_index.specs.PlainIndex.{plain_index_of}
use Rattle.caf_kinds.specs.Collector.{total_of}
use Rattle.caf_kinds.specs.Contents.{summary_means, total_means}
use Rattle.caf_kinds.specs.Kinds.{kind_rules, replies_of}
use Rattle.caf_kinds.specs.Pipeline.{stopped}
use Rattle.caf_kinds.specs.declared.contents.Summary.{Summary}
use Rattle.caf_kinds.specs.declared.contents.Total.{Total}
use Rattle.caf_kinds.specs.declared.kind.Kind.{Kind}
use Rattle.caf_kinds.specs.declared.script.Step.{Step}
use Rattle.caf_kinds.specs.declared.setup.Setup.{Setup}
use Rattle.caf_script.specs.Reply.{Reply, Unsent, Answered}
use Rattle.caf_pipeline.specs.Complete.{IsCompleteRecord}
use Rattle.caf_pipeline.specs.Flow.{IsUndisturbedRecord}

-- how many words and entries the index has; numbers stop at 2^64 - 1
abbrev pub summary_of : Entries → Summary
summary_of index = record { words = stopped (finite.len index); postings = stopped (entry_count index) }

-- how many lines and bytes the files have together
abbrev pub total_in : List (List ℕ) → Total
total_in files = total_of (sum_by (λ bytes. length (lines_of bytes)) files) (sum_by length files)

-- the spelling of one value
abbrev pub spelled : Datum → List ℕ
spelled value = spellings (more value no_data)

-- the first step is no request, the second asks for the index, and all others for totals
pub record HasAnswers (script : List Step) (files : List (List ℕ)) (replies : List Reply) : Type 0 where
  pub first : slice_get replies 0 ≡ Some Unsent
  pub index : slice_get replies 1 ≡ Some (Answered (spelled (summary_means (summary_of (plain_index_of files)))))
  pub totals : (step : ℕ) → 2 ≤ step → step < length script → slice_get replies step ≡ Some (Answered (spelled (total_means (total_in files))))

-- at its end the conductor has these answers
pub record AreAnswered (k : Kept (Snapshot Kind)) (script : List Step) (files : List (List ℕ)) : Type 0 where
  pub replies : List Reply
  pub has : replies_of (ends (machine_of kind_rules) k 0).behavior ≡ Some replies
  pub are : HasAnswers script files replies

-- where a legal record over the opening of an undisturbed run is at rest, in which no tick and no Stop was taken
abbrev pub RestingRequestsAreAnswered : Type 0
RestingRequestsAreAnswered = (setups : List Setup) (script : List Step) (files : List (List ℕ)) (ticks : ℕ) (k : Kept (Snapshot Kind)) (ts : List Turn)
    → (is : IsUndisturbedRecord setups script files ticks k ts) → IsAtRest (machine_of kind_rules) k → AreAnswered k script files

-- and where it is complete
abbrev pub CompleteRequestsAreAnswered : Type 0
CompleteRequestsAreAnswered = (setups : List Setup) (script : List Step) (files : List (List ℕ)) (k : Kept (Snapshot Kind)) (ts : List Turn)
    → IsCompleteRecord setups script files k ts → AreAnswered k script files
