-- How high the stamps of an undisturbed run come before Stop.
use Rattle.std.specs.Prelude.{ℕ, ◌<◌, List}
use Rattle.std.specs.List.{AllByRecursion}
use Rattle.caf_message.specs.declared.envelope.Taken.{Taken}
use Rattle.caf_actor.specs.declared.snapshot.Snapshot.{Snapshot}
use Rattle.caf_actor.specs.Record.{Machine, Kept, machine_of, ends, latest, untaken}
use Rattle.caf_actor.specs.Run.{Turn}
use Rattle.caf_kinds.specs.Kinds.{kind_rules}
use Rattle.caf_kinds.specs.declared.kind.Kind.{Kind}
use Rattle.caf_kinds.specs.declared.script.Step.{Step}
use Rattle.caf_kinds.specs.declared.setup.Setup.{Setup}
use Rattle.caf_pipeline.specs.Flow.{IsUndisturbedRecord}
use Rattle.caf_pipeline.specs.Numbers.{enough}

-- the stamps of the places, the greatest of them, and those of all that is untaken are below that number
pub record HasLowStamps {S : Type 0} (m : Machine S) (k : Kept S) (most : ℕ) : Type 0 where
  pub places : (p : ℕ) → p < k.places → m.stamp_of (ends m k p) < most
  pub greatest : latest m k.places (ends m k) < most
  pub untaken : (a b : ℕ) → AllByRecursion (λ (e : Taken). e.stamp < most) (untaken m k a b)

abbrev pub UndisturbedStampsAreLow : Type 0
UndisturbedStampsAreLow = (setups : List Setup) (script : List Step) (files : List (List ℕ)) (ticks : ℕ) (k : Kept (Snapshot Kind)) (ts : List Turn)
    → IsUndisturbedRecord setups script files ticks k ts → HasLowStamps (machine_of kind_rules) k (enough setups script files)
