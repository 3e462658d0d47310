-- That what a part was told comes to the collector, where all is at rest.
use Rattle.std.specs.Prelude.{◌≡◌, ℕ, List, [], Contains}
use Rattle.caf_message.specs.declared.envelope.Plain.TheVariants as «plain»
use Rattle.caf_message.specs.declared.envelope.Taken.{Taken}
use Rattle.caf_actor.specs.declared.snapshot.Snapshot.{Snapshot}
use Rattle.caf_actor.specs.Merge.{IsMerge}
use Rattle.caf_actor.specs.Record.{Kept, machine_of, IsLegal, IsAtRest, heard, joined}
use Rattle.caf_actor.specs.Run.{Turn}
use Rattle.caf_kinds.specs.FileChunks.{all_chunks}
use Rattle.caf_kinds.specs.Kinds.{kind_rules}
use Rattle.caf_kinds.specs.Pipeline.{chunk_content}
use Rattle.caf_kinds.specs.declared.contents.Chunk.{Chunk}
use Rattle.caf_kinds.specs.declared.kind.Kind.{Kind}
use Rattle.caf_kinds.specs.declared.script.Step.{Step}
use Rattle.caf_kinds.specs.declared.setup.Setup.{Setup}
use Rattle.caf_pipeline.specs.Undisturbed.{Pipeline, IsUndisturbed}
use Rattle.caf_pipeline.specs.Parts.{told_postings, told_extent}
use Rattle.caf_pipeline.specs.Contents.{AreIndexable, OpensAs}

-- the place took content of these words
pub record HasTaken (k : Kept (Snapshot Kind)) (place : ℕ) (words : List ℕ) : Type 0 where
  pub envelope : Taken
  pub is_taken : Contains (joined (k.journal place)) envelope
  pub body_is : envelope.body ≡ «plain».Content words

-- a legal record over the opening of an undisturbed run, in which no tick and no Stop was taken
pub record IsUndisturbedRecord (setups : List Setup) (script : List Step) (files : List (List ℕ)) (ticks : ℕ) (k : Kept (Snapshot Kind)) (ts : List Turn) : Type 0 where
  pub undisturbed : IsUndisturbed setups script
  pub indexable : AreIndexable files
  pub opens : OpensAs setups script files k
  pub legal : IsLegal (machine_of kind_rules) ticks k
  pub merge : IsMerge k ts
  pub silent : heard (k.journal 0) ≡ []

-- a chunk that the relay took comes to the collector as its postings, and one that lines took as its extent
pub record IsCollected (p : Pipeline) (k : Kept (Snapshot Kind)) (c : Chunk) : Type 0 where
  pub postings : HasTaken k p.relay (chunk_content c) → HasTaken k p.collector (told_postings c)
  pub extent : HasTaken k p.lines (chunk_content c) → HasTaken k p.collector (told_extent c)

abbrev pub RelayedChunksAreCollected : Type 0
RelayedChunksAreCollected = (setups : List Setup) (script : List Step) (files : List (List ℕ)) (ticks : ℕ) (k : Kept (Snapshot Kind)) (ts : List Turn)
    → (is : IsUndisturbedRecord setups script files ticks k ts) → IsAtRest (machine_of kind_rules) k
    → (c : Chunk) → Contains (all_chunks files) c → IsCollected is.undisturbed.pipeline k c
