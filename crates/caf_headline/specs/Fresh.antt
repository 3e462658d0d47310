-- That the actors of an opening begin as the laws of requests want it.
use Rattle.std.specs.Prelude.{ℕ, List}
use Rattle.caf_actor.specs.declared.snapshot.Snapshot.{Snapshot}
use Rattle.caf_actor.specs.Carriers.{AreFresh}
use Rattle.caf_actor.specs.Record.{Kept, IsCloser}
use Rattle.caf_kinds.specs.Kinds.{IsValid, kind_rules}
use Rattle.caf_kinds.specs.declared.kind.Kind.{Kind}
use Rattle.caf_kinds.specs.declared.script.Step.{Step}
use Rattle.caf_kinds.specs.declared.setup.Setup.{Setup}
use Rattle.caf_opening.specs.Opening.{CanOpen, SparesConductor, AreKnown, opening_of}
use Rattle.caf_pipeline.specs.Contents.{OpensAs}

-- the actors may be opened, nobody has the conductor as a peer or as a child, and their behaviours' values occur
pub record IsOpening (setups : List Setup) (script : List Step) (files : List (List ℕ)) : Type 0 where
  pub opens : CanOpen setups script files
  pub spared : SparesConductor setups
  pub known : AreKnown (opening_of setups script files)

pub record BeginsWell (k : Kept (Snapshot Kind)) : Type 0 where
  pub fresh : AreFresh IsValid kind_rules k.places k.start
  pub closer : IsCloser kind_rules k.places (λ p. (k.start p).behavior)

abbrev pub OpeningIsFresh : Type 0
OpeningIsFresh = (setups : List Setup) (script : List Step) (files : List (List ℕ)) (k : Kept (Snapshot Kind))
    → IsOpening setups script files → OpensAs setups script files k → BeginsWell k
