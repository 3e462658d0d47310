-- Undisturbed setups and scripts: nothing but one pipeline that indexes files, and a script that starts and asks it.
use Rattle.std.specs.Prelude.{◌≡◌, ℕ, ◌<◌, ◌≤◌, true, List, [], ◌∷◌, length, map, Some, Contains}
use Rattle.std.specs.List.{AllByRecursion}
use Rattle.caf_types.specs.declared.shape.TypeId.{TypeId}
use Rattle.caf_words.specs.Datum.{a_unit, more, no_data, data_of}
use Rattle.caf_words.specs.Several.{ids_of}
use Rattle.caf_words.specs.Value.{datum}
use Rattle.caf_words.specs.declared.value.Value.{Value}
use Rattle.caf_response.specs.declared.pending.Mode.TheVariants.{Multiplexed}
use Rattle.caf_kinds.specs.Asking.{Types, type_ids}
use Rattle.caf_kinds.specs.Collector.{asking_index, asking_totals}
use Rattle.caf_kinds.specs.Setups.{setup_at}
use Rattle.caf_kinds.specs.Source.{starting}
use Rattle.caf_kinds.specs.Starting.{has_short_lines}
use Rattle.caf_kinds.specs.declared.script.Step.{Step}
use Rattle.caf_kinds.specs.declared.script.Step.TheVariants as step
use Rattle.caf_kinds.specs.declared.setup.KindName.{KindName}
use Rattle.caf_kinds.specs.declared.setup.KindName.TheVariants as name
use Rattle.caf_kinds.specs.declared.setup.Setup.{Setup}
use Rattle.caf_opening.specs.Opening.{CanOpen}

-- ---- actors

-- where the actors of a pipeline stand
pub record Pipeline : Type 0 where
  pub source : ℕ
  pub lines : ℕ
  pub relay : ℕ
  pub counters : List ℕ
  pub collector : ℕ

abbrev pub places_of : Pipeline → List ℕ
places_of p = p.source ∷ p.lines ∷ p.relay ∷ p.collector ∷ p.counters

-- the actor at the place has that kind and those peers, and no children
pub record IsSetUp (setups : List Setup) (kind : KindName) (peers : List ℕ) (place : ℕ) : Type 0 where
  pub setup : Setup
  pub at : setup_at setups place ≡ Some setup
  pub kind_is : setup.kind ≡ kind
  pub peers_are : setup.peers ≡ peers
  pub childless : setup.reserve ≡ []

-- no place stands twice
abbrev pub AreApart : List ℕ → Type 0
AreApart [] = Unit {0}
AreApart (place ∷ places) = (Contains places place → ⊥) × AreApart places

-- the source tells lines, relay and collector, in this order; the relay tells the counters, each of which it has
-- once; lines and counters tell the collector
pub record IsPipeline (setups : List Setup) (p : Pipeline) : Type 0 where
  pub source : IsSetUp setups name.Source (p.lines ∷ p.relay ∷ p.collector ∷ []) p.source
  pub lines : IsSetUp setups name.Lines (p.collector ∷ []) p.lines
  pub relay : IsSetUp setups name.Relay p.counters p.relay
  pub counters : AllByRecursion (IsSetUp setups name.Counter (p.collector ∷ [])) p.counters
  pub collector : IsSetUp setups name.Collector [] p.collector
  pub some : 0 < length p.counters
  pub apart : AreApart p.counters
  pub no_others : (place : ℕ) → 0 < place → place ≤ length setups → Contains (places_of p) place

-- ---- the script

-- a message of one atom
pub record IsAtom (atom : Types) (types : List TypeId) (values : List Value) : Type 0 where
  pub ids : ids_of types ≡ type_ids atom
  pub units : data_of (map datum values) ≡ more a_unit no_data

-- whatever its priority
abbrev pub IsTold : ℕ → Types → Step → Type 0
IsTold to atom (step.Tell place priority types values) = (place ≡ to) × IsAtom atom types values
IsTold to atom _ = ⊥

abbrev pub IsRequested : ℕ → Types → Step → Type 0
IsRequested to atom (step.Request place priority mode types values) = (place ≡ to) × (mode ≡ Multiplexed) × IsAtom atom types values
IsRequested to atom _ = ⊥

-- the source is told to start, and the collector is asked for the index, and then for totals, as often as one likes
abbrev pub IsPlainScript : Pipeline → List Step → Type 0
IsPlainScript p (first ∷ second ∷ others) =
    IsTold p.source starting first × IsRequested p.collector asking_index second × AllByRecursion (IsRequested p.collector asking_totals) others
IsPlainScript p _ = ⊥

-- ---- both

-- no more actors and steps than a run may have
pub record IsUndisturbed (setups : List Setup) (script : List Step) : Type 0 where
  pub pipeline : Pipeline
  pub actors : IsPipeline setups pipeline
  pub plays : IsPlainScript pipeline script
  pub few : length setups ≤ 255
  pub steps : length script ≤ 1000

abbrev pub HaveShortLines : List (List ℕ) → Type 0
HaveShortLines files = AllByRecursion (λ bytes. has_short_lines 0 bytes ≡ true) files

abbrev pub UndisturbedOpens : Type 0
UndisturbedOpens = (setups : List Setup) (script : List Step) (files : List (List ℕ)) → IsUndisturbed setups script → HaveShortLines files → CanOpen setups script files
