-- The actors of a run at its beginning.
use Rattle.std.specs.Prelude.{◌≡◌, ◌≢◌, ℕ, ◌+◌, ◌<◌, ◌≤◌, ◌==◌, Bool, true, not, List, [], ◌∷◌, length}
use Rattle.std.specs.List.{AllByRecursion, list_any}
use Rattle.caf_actor.specs.Actor.{ActorState, untried}
use Rattle.caf_actor.specs.Snapshot.{fresh}
use Rattle.caf_kinds.specs.Kinds.{has_peers, kind_rules, IsValid}
use Rattle.caf_kinds.specs.Planning.{conductor_of}
use Rattle.caf_kinds.specs.Starting.{IsTypedStep, has_short_lines, started, who_of}
use Rattle.caf_kinds.specs.Who.{Who}
use Rattle.caf_kinds.specs.declared.kind.Kind.{Kind}
use Rattle.caf_kinds.specs.declared.kind.Kind.TheVariants as kind
use Rattle.caf_kinds.specs.declared.script.Step.{Step}
use Rattle.caf_kinds.specs.declared.setup.KindName.{KindName}
use Rattle.caf_kinds.specs.declared.setup.KindName.TheVariants as name
use Rattle.caf_kinds.specs.declared.setup.Setup.{Setup}

-- ---- who may stand there

-- of so many places: its peers and its children are among them, and it is no conductor
pub record CanStand (count : ℕ) (s : Setup) : Type 0 where
  pub kind : s.kind ≢ name.Conductor
  pub peers : has_peers s.kind (length s.peers) ≡ true
  pub peers_below : AllByRecursion (λ p. p < count) s.peers
  pub reserve_below : AllByRecursion (λ p. p < count) s.reserve

pub record CanOpen (places : List Setup) (script : List Step) (files : List (List ℕ)) : Type 0 where
  pub each : AllByRecursion (CanStand (length places + 1)) places
  pub few : length places ≤ 255
  pub steps : length script ≤ 1000
  pub typed : AllByRecursion (IsTypedStep places) script
  pub lines : AllByRecursion (λ bytes. has_short_lines 0 bytes ≡ true) files

-- it has the conductor neither as a peer nor as a child
pub record IsSpared (s : Setup) : Type 0 where
  pub peers : AllByRecursion (λ p. 0 < p) s.peers
  pub reserve : AllByRecursion (λ p. 0 < p) s.reserve

-- so it is with all of them
abbrev pub SparesConductor : List Setup → Type 0
SparesConductor places = AllByRecursion IsSpared places

-- ---- the actors

-- it is a child of another actor, which starts it
abbrev pub is_child : List Setup → ℕ → Bool
is_child places p = list_any (λ (s : Setup). list_any (λ q. q == p) s.reserve) places

-- the first source has the files
abbrev pub own_files : KindName → List (List ℕ) → List (List ℕ)
own_files name.Source files = files
own_files _ files = []

abbrev pub files_left : KindName → List (List ℕ) → List (List ℕ)
files_left name.Source files = []
files_left _ files = files

-- an actor that took nothing, with the stamp 0
abbrev pub first_of : Bool → ℕ → Kind → ActorState Kind
first_of has_begun p k = untried (fresh kind_rules has_begun p k 0)

abbrev pub actor_at : List Setup → List Step → ℕ → Setup → List (List ℕ) → ActorState Kind
actor_at places script p s files = first_of (not (is_child places p)) p (started (who_of p s) s places script files s.kind)

-- those at that place and behind it
abbrev pub actors_from : List Setup → List Step → ℕ → List Setup → List (List ℕ) → List (ActorState Kind)
actors_from places script p [] files = []
actors_from places script p (s ∷ others) files = actor_at places script p s (own_files s.kind files) ∷ actors_from places script (p + 1) others (files_left s.kind files)

-- the conductor has nothing of its own but the script
abbrev pub who_conducts : Who
who_conducts = record { place = 0; peers = []; reserve = [] }

abbrev pub conductor_at_0 : List Setup → List Step → ActorState Kind
conductor_at_0 places script = first_of true 0 (kind.Conductor (conductor_of who_conducts places script))

abbrev pub opening_of : List Setup → List Step → List (List ℕ) → List (ActorState Kind)
opening_of places script files = conductor_at_0 places script ∷ actors_from places script 1 places files

-- ---- what holds of their behaviours

-- the behaviour's value is one that occurs
abbrev pub IsKnown : ActorState Kind → Type 0
IsKnown a = IsValid a.snapshot.behavior

abbrev pub AreKnown : List (ActorState Kind) → Type 0
AreKnown actors = AllByRecursion IsKnown actors
