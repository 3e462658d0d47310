-- That the collector's index is the plain index of the files.
use Rattle.std.specs.Prelude.{◌≡◌, ℕ, List, Some, Contains}
use Rattle.caf_actor.specs.declared.snapshot.Snapshot.{Snapshot}
use Rattle.caf_actor.specs.Record.{Kept, machine_of, IsAtRest, ends}
use Rattle.caf_actor.specs.Run.{Turn}
use Rattle.caf_index.specs.PlainIndex.{plain_index_of}
use Rattle.caf_kinds.specs.FileChunks.{all_chunks}
use Rattle.caf_kinds.specs.Kinds.{kind_rules, index_of}
use Rattle.caf_kinds.specs.Pipeline.{chunk_content}
use Rattle.caf_kinds.specs.declared.contents.Chunk.{Chunk}
use Rattle.caf_kinds.specs.declared.kind.Kind.{Kind}
use Rattle.caf_kinds.specs.declared.kind.Kind.TheVariants as kind
use Rattle.caf_kinds.specs.declared.source.Stage.TheVariants as stage
use Rattle.caf_kinds.specs.declared.script.Step.{Step}
use Rattle.caf_kinds.specs.declared.setup.Setup.{Setup}
use Rattle.caf_pipeline.specs.Undisturbed.{Pipeline}
use Rattle.caf_pipeline.specs.Flow.{HasTaken, IsUndisturbedRecord}

-- the relay took all chunks of the files
abbrev pub IsRelayed : Kept (Snapshot Kind) → Pipeline → List (List ℕ) → Type 0
IsRelayed k p files = (c : Chunk) → Contains (all_chunks files) c → HasTaken k p.relay (chunk_content c)

-- at its end the collector has the plain index of the files
abbrev pub IsIndexed : Kept (Snapshot Kind) → Pipeline → List (List ℕ) → Type 0
IsIndexed k p files = index_of (ends (machine_of kind_rules) k p.collector).behavior ≡ Some (plain_index_of files)

abbrev pub RelayedFilesAreIndexed : Type 0
RelayedFilesAreIndexed = (setups : List Setup) (script : List Step) (files : List (List ℕ)) (ticks : ℕ) (k : Kept (Snapshot Kind)) (ts : List Turn)
    → (is : IsUndisturbedRecord setups script files ticks k ts) → IsAtRest (machine_of kind_rules) k
    → IsRelayed k is.undisturbed.pipeline files → IsIndexed k is.undisturbed.pipeline files

-- at its end the source has told all chunks
abbrev pub HasToldAll : Kind → Type 0
HasToldAll (kind.Source s) = s.stage ≡ stage.Done
HasToldAll _ = ⊥

abbrev pub ToldFilesAreIndexed : Type 0
ToldFilesAreIndexed = (setups : List Setup) (script : List Step) (files : List (List ℕ)) (ticks : ℕ) (k : Kept (Snapshot Kind)) (ts : List Turn)
    → (is : IsUndisturbedRecord setups script files ticks k ts) → IsAtRest (machine_of kind_rules) k
    → HasToldAll (ends (machine_of kind_rules) k is.undisturbed.pipeline.source).behavior → IsIndexed k is.undisturbed.pipeline files

-- at its end the source was told to start
abbrev pub HasStarted : Kind → Type 0
HasStarted (kind.Source s) = s.stage ≡ stage.Waiting → ⊥
HasStarted _ = ⊥

abbrev pub StartedFilesAreIndexed : Type 0
StartedFilesAreIndexed = (setups : List Setup) (script : List Step) (files : List (List ℕ)) (ticks : ℕ) (k : Kept (Snapshot Kind)) (ts : List Turn)
    → (is : IsUndisturbedRecord setups script files ticks k ts) → IsAtRest (machine_of kind_rules) k
    → HasStarted (ends (machine_of kind_rules) k is.undisturbed.pipeline.source).behavior → IsIndexed k is.undisturbed.pipeline files

-- whatever the order in which anything was taken
abbrev pub UndisturbedFilesAreIndexed : Type 0
UndisturbedFilesAreIndexed = (setups : List Setup) (script : List Step) (files : List (List ℕ)) (ticks : ℕ) (k : Kept (Snapshot Kind)) (ts : List Turn)
    → (is : IsUndisturbedRecord setups script files ticks k ts) → IsAtRest (machine_of kind_rules) k → IsIndexed k is.undisturbed.pipeline files
