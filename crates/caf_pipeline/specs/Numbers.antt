-- How many envelopes an undisturbed run handles before Stop.
use Rattle.std.specs.Prelude.{◌≡◌, ℕ, ◌+◌, ◌*◌, ◌<◌, ◌≤◌, List, length, None}
use Rattle.caf_actor.specs.declared.snapshot.Snapshot.{Snapshot}
use Rattle.caf_actor.specs.Merge.{IsMerge}
use Rattle.caf_actor.specs.Record.{Kept, machine_of, IsLegal, handled}
use Rattle.caf_actor.specs.Run.{Turn}
use Rattle.caf_kinds.specs.FileChunks.{all_chunks}
use Rattle.caf_kinds.specs.Kinds.{kind_rules}
use Rattle.caf_kinds.specs.declared.kind.Kind.{Kind}
use Rattle.caf_kinds.specs.declared.script.Step.{Step}
use Rattle.caf_kinds.specs.declared.setup.Setup.{Setup}
use Rattle.caf_pipeline.specs.Undisturbed.{IsUndisturbed}
use Rattle.caf_pipeline.specs.Contents.{AreIndexable, OpensAs}
use Rattle.caf_pipeline.specs.Flow.{IsUndisturbedRecord}

-- 8 for each chunk of the files, 16 for each place, and 2 for each step
abbrev pub enough : List Setup → List Step → List (List ℕ) → ℕ
enough setups script files = 8 * length (all_chunks files) + 16 * (length setups + 1) + 2 * length script

-- at rest or not, fewer were handled
abbrev pub UndisturbedRunsAreShort : Type 0
UndisturbedRunsAreShort = (setups : List Setup) (script : List Step) (files : List (List ℕ)) (ticks : ℕ) (k : Kept (Snapshot Kind)) (ts : List Turn)
    → IsUndisturbedRecord setups script files ticks k ts → handled (machine_of kind_rules) k < enough setups script files

-- a budget of that many isn't spent, where no tick was to come and Stop wasn't taken
abbrev pub EnoughIsNeverSpent : Type 0
EnoughIsNeverSpent = (setups : List Setup) (script : List Step) (files : List (List ℕ)) (budget : ℕ) (k : Kept (Snapshot Kind)) (ts : List Turn)
    → IsUndisturbed setups script → AreIndexable files → OpensAs setups script files k
    → IsLegal (machine_of kind_rules) 0 k → IsMerge k ts → k.cut ≡ None
    → enough setups script files ≤ budget → handled (machine_of kind_rules) k < budget
