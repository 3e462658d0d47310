-- That the collector's index is the plain index of the files in complete records too, which end with Stop.
use Rattle.std.specs.Prelude.{ℕ, List}
use Rattle.caf_actor.specs.declared.snapshot.Snapshot.{Snapshot}
use Rattle.caf_actor.specs.Merge.{IsMerge}
use Rattle.caf_actor.specs.Record.{Kept, machine_of, IsComplete}
use Rattle.caf_actor.specs.Run.{Turn}
use Rattle.caf_kinds.specs.Kinds.{kind_rules}
use Rattle.caf_kinds.specs.declared.kind.Kind.{Kind}
use Rattle.caf_kinds.specs.declared.script.Step.{Step}
use Rattle.caf_kinds.specs.declared.setup.Setup.{Setup}
use Rattle.caf_pipeline.specs.Undisturbed.{IsUndisturbed}
use Rattle.caf_pipeline.specs.Contents.{AreIndexable, OpensAs}
use Rattle.caf_pipeline.specs.Indexed.{IsIndexed}

-- a complete record over the opening of an undisturbed run, the script of which has no tick
pub record IsCompleteRecord (setups : List Setup) (script : List Step) (files : List (List ℕ)) (k : Kept (Snapshot Kind)) (ts : List Turn) : Type 0 where
  pub undisturbed : IsUndisturbed setups script
  pub indexable : AreIndexable files
  pub opens : OpensAs setups script files k
  pub complete : IsComplete (machine_of kind_rules) 0 k
  pub merge : IsMerge k ts

-- whatever the order in which anything was taken
abbrev pub CompleteFilesAreIndexed : Type 0
CompleteFilesAreIndexed = (setups : List Setup) (script : List Step) (files : List (List ℕ)) (k : Kept (Snapshot Kind)) (ts : List Turn)
    → (is : IsCompleteRecord setups script files k ts) → IsIndexed k is.undisturbed.pipeline files
