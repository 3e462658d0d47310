-- The scenario that indexes files, over so many counters: what a run plays where no file says another.
use Rattle.std.specs.Prelude.{◌≡◌, ℕ, zero, suc, ◌+◌, false, codes, decimal, List, [], ◌∷◌, ◌++◌, map}
use Rattle.std.specs.List.{range_with_len}
use Rattle.caf_types.specs.declared.notice.Priority.TheVariants as priority
use Rattle.caf_response.specs.declared.pending.Mode.TheVariants as mode
use Rattle.caf_words.specs.Datum.{Data, a_unit, more, no_data}
use Rattle.caf_kinds.specs.declared.setup.KindName.{KindName}
use Rattle.caf_kinds.specs.declared.setup.KindName.TheVariants as name
use Rattle.caf_kinds.specs.declared.setup.Setup.{Setup}
use Rattle.caf_scenario.specs.Scenario.{PlainStep, tell, request, plain_step}
use Rattle.caf_scenario.specs.declared.scenario.Scenario.{Scenario}

-- ---- names

abbrev pub counter_name : ℕ → List ℕ
counter_name number = codes "c" ++ decimal number

abbrev pub builtin_names : ℕ → List (List ℕ)
builtin_names counters = codes "src" ∷ codes "lines" ∷ codes "relay" ∷ (map counter_name (range_with_len 1 counters) ++ codes "col" ∷ [])

-- ---- setups: the counters stand from place 4 on, and the collector behind them

abbrev pub collector_place : ℕ → ℕ
collector_place counters = 4 + counters

abbrev pub plain_setup : KindName → List ℕ → Setup
plain_setup kind peers = record { kind = kind; peers = peers; asleep = false; reserve = [] }

-- all tell their postings to that place
abbrev pub counters_telling : ℕ → ℕ → List Setup
counters_telling collector zero = []
counters_telling collector (suc n) = plain_setup name.Counter (collector ∷ []) ∷ counters_telling collector n

abbrev pub builtin_setups : ℕ → List Setup
builtin_setups counters =
    plain_setup name.Source (2 ∷ 3 ∷ collector_place counters ∷ [])
    ∷ plain_setup name.Lines (collector_place counters ∷ [])
    ∷ plain_setup name.Relay (range_with_len 4 counters)
    ∷ (counters_telling (collector_place counters) counters ++ plain_setup name.Collector [] ∷ [])

-- ---- the script: the source starts, and the index is asked for

abbrev pub one_unit : Data
one_unit = more a_unit no_data

abbrev pub start_said : PlainStep
start_said = tell 1 priority.Normal (206 ∷ []) one_unit

abbrev pub index_asked : ℕ → PlainStep
index_asked collector = request collector priority.Normal mode.Multiplexed (208 ∷ []) one_unit

abbrev pub builtin_script : ℕ → List PlainStep
builtin_script counters = start_said ∷ index_asked (collector_place counters) ∷ []

-- ---- the scenario

pub record IsBuiltin (counters : ℕ) (scenario : Scenario) : Type 0 where
  pub names : scenario.names ≡ builtin_names counters
  pub setups : scenario.setups ≡ builtin_setups counters
  pub script : map plain_step scenario.script ≡ builtin_script counters
