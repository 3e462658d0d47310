-- A conductor at place 0 is a closer: it ends all others at Stop, and nobody can make it do otherwise.
use Rattle.std.specs.Prelude.{◌≡◌, ℕ, ◌-◌, ◌<◌, ◌++◌, Contains}
use Rattle.caf_actor.specs.Record.{IsCloser}
use Rattle.caf_kinds.specs.Kinds.{who, kind_rules}
use Rattle.caf_kinds.specs.Conductor.{Conducting, IsConducting}
use Rattle.caf_kinds.specs.Planning.{places_from}
use Rattle.caf_kinds.specs.declared.kind.Kind.{Kind}
use Rattle.caf_kinds.specs.declared.kind.Kind.TheVariants as kind

-- at place 0 stands a conductor whose peers are all others, and no actor has place 0 as a peer or as a child's place
pub record IsConducted (places : ℕ) (start : ℕ → Kind) (s : Conducting) : Type 0 where
  pub first : start 0 ≡ kind.Conductor s
  pub valid : IsConducting s
  pub peers : s.identity.peers ≡ places_from 1 (places - 1)
  pub unnamed : (p : ℕ) → p < places → Contains ((who (start p)).peers ++ (who (start p)).reserve) 0 → ⊥

abbrev pub ConductorCloses : Type 0
ConductorCloses = (places : ℕ) (start : ℕ → Kind) (s : Conducting) → IsConducted places start s → IsCloser kind_rules places start
