-- What has to hold where an actor of some kind is started, and what it is then.
use Rattle.std.specs.Prelude.{◌≡◌, ℕ, ◌+◌, ◌<◌, ◌≤◌, ◌==◌, ◌&&◌, nat_le, if◌then◌else◌, Bool, true, List, [], ◌∷◌, length, map, pos, Option, Some, None}
use Rattle.std.specs.List.{AllByRecursion}
use Rattle.caf_types.specs.ShapeTree.{ShapeTree}
use Rattle.caf_types.specs.Table.{shape_at}
use Rattle.caf_types.specs.declared.shape.TypeId.{TypeId}
use Rattle.caf_words.specs.Datum.{data_of}
use Rattle.caf_words.specs.Several.{ids_of, several_fit}
use Rattle.caf_words.specs.Value.{datum}
use Rattle.caf_words.specs.declared.value.Value.{Value}
use Rattle.caf_message.specs.Content.{content_of}
use Rattle.caf_message.specs.Fits.{HaveShapes}
use Rattle.caf_actor.specs.Rules.{is_input}
use Rattle.caf_kinds.specs.Core.{core}
use Rattle.std.specs.FinMap as finite
use Rattle.caf_kinds.specs.Who.{Who}
use Rattle.caf_kinds.specs.Source as source
use Rattle.caf_kinds.specs.Kinds.{interface_of, has_peers}
use Rattle.caf_kinds.specs.Setups.{setup_at}
use Rattle.caf_kinds.specs.Planning.{conductor_of}
use Rattle.caf_kinds.specs.Sights.{no_sights}
use Rattle.caf_kinds.specs.Alarms.{no_alarms}
use Rattle.caf_kinds.specs.declared.setup.KindName.{KindName}
use Rattle.caf_kinds.specs.declared.setup.KindName.TheVariants as name
use Rattle.caf_kinds.specs.declared.setup.Setup.{Setup}
use Rattle.caf_kinds.specs.declared.script.Step.{Step}
use Rattle.caf_kinds.specs.declared.script.Step.TheVariants as step
use Rattle.caf_kinds.specs.declared.kind.Kind.{Kind}
use Rattle.caf_kinds.specs.declared.kind.Kind.TheVariants as kind

-- ---- files

-- no line, with its line end, has over 1,048,576 bytes, where so many bytes of the first one stand before
abbrev pub has_short_lines : ℕ → List ℕ → Bool
has_short_lines before [] = true
has_short_lines before (byte ∷ bytes) = nat_le (before + 1) 1048576 && has_short_lines (if byte == 10 then 0 else before + 1) bytes

-- ---- the script

-- the values are of the types, which the table of the kinds has, and their content is no larger than a message
pub record IsMessage (types : List TypeId) (values : List Value) : Type 0 where
  pub shapes : List ShapeTree
  pub known : HaveShapes (shape_at core) (ids_of types) shapes
  pub fit : several_fit shapes (data_of (map datum values)) ≡ true
  pub small : length (content_of (ids_of types) (data_of (map datum values))) ≤ 4194304

abbrev pub Takes : Option Setup → List TypeId → Type 0
Takes None types = ⊥
Takes (Some setup) types = is_input (interface_of setup.kind) (ids_of types) ≡ true

-- it goes to one of the actors, which takes it
pub record IsTyped (places : List Setup) (to : ℕ) (types : List TypeId) (values : List Value) : Type 0 where
  pub message : IsMessage types values
  pub taken : Takes (setup_at places to) types

abbrev pub IsThere : Option Setup → Type 0
IsThere None = ⊥
IsThere (Some setup) = Unit {0}

abbrev pub IsTypedStep : List Setup → Step → Type 0
IsTypedStep places (step.Tell to priority types values) = IsTyped places to types values
IsTypedStep places (step.Request to priority mode types values) = IsTyped places to types values
IsTypedStep places (step.Within to priority mode types values ticks) = IsTyped places to types values
IsTypedStep places (step.Exit to reason) = IsThere (setup_at places to)
IsTypedStep places step.Sync = Unit {0}
IsTypedStep places step.Tick = Unit {0}

-- ---- an actor

-- the places of the setups are those from 1 on
pub record CanStart (place : ℕ) (setup : Setup) (places : List Setup) (script : List Step) (files : List (List ℕ)) : Type 0 where
  pub place_is : place < 256
  pub reserve : AllByRecursion (λ p. p < 256) setup.reserve
  pub peers : has_peers setup.kind (length setup.peers) ≡ true
  pub conducts : setup.kind ≡ name.Conductor → place ≡ 0
  pub few : length places ≤ 255
  pub steps : length script ≤ 1000
  pub typed : AllByRecursion (IsTypedStep places) script
  pub lines : AllByRecursion (λ bytes. has_short_lines 0 bytes ≡ true) files

abbrev pub who_of : ℕ → Setup → Who
who_of place setup = record { place = place; peers = setup.peers; reserve = setup.reserve }

-- ---- what it is at first: one line a kind

abbrev pub started : Who → Setup → List Setup → List Step → List (List ℕ) → KindName → Kind
started who setup places script files name.Echo = kind.Echo (record { identity = who; is_asleep = setup.asleep })
started who setup places script files name.Cell = kind.Cell (record { identity = who; value = pos 0 })
started who setup places script files name.Calc = kind.Calc (record { identity = who })
started who setup places script files name.Holder = kind.Holder (record { identity = who; held = [] })
started who setup places script files name.Quitter = kind.Quitter (record { identity = who })
started who setup places script files name.Source = kind.Source (source.started who files)
started who setup places script files name.Relay = kind.Relay (record { identity = who })
started who setup places script files name.Counter = kind.Counter (record { identity = who; count = 0 })
started who setup places script files name.Lines = kind.Lines (record { identity = who })
started who setup places script files name.Collector = kind.Collector (record { identity = who; index = finite.empty; tally = record { postings = 0; extents = 0; lines = 0; bytes = 0; chunks = None }; held = [] })
started who setup places script files name.Watcher = kind.Watcher (record { identity = who; sights = no_sights })
started who setup places script files name.Spawner = kind.Spawner (record { identity = who; started = 0; passed = 0 })
started who setup places script files name.Alarm = kind.Alarm (record { identity = who; alarms = no_alarms })
started who setup places script files name.Conductor = kind.Conductor (conductor_of who places script)
