-- The setups and the script that index files where no scenario says another: so many counters from place 4 on.
use Rattle.std.specs.Prelude.{ℕ, zero, suc, ◌+◌, ◌≤◌, false, List, [], ◌∷◌, ◌++◌}
use Rattle.std.specs.List.{range_with_len}
use Rattle.caf_kinds.specs.Collector.{asking_index}
use Rattle.caf_kinds.specs.Source.{starting}
use Rattle.caf_kinds.specs.declared.script.Step.{Step}
use Rattle.caf_kinds.specs.declared.setup.KindName.{KindName}
use Rattle.caf_kinds.specs.declared.setup.KindName.TheVariants as name
use Rattle.caf_kinds.specs.declared.setup.Setup.{Setup}
use Rattle.caf_pipeline.specs.Undisturbed.{IsTold, IsRequested, IsUndisturbed}

abbrev pub collector_place : ℕ → ℕ
collector_place counters = 4 + counters

abbrev pub set_up : KindName → List ℕ → Setup
set_up kind peers = record { kind = kind; peers = peers; asleep = false; reserve = [] }

-- so many counters, all of which tell that place
abbrev pub counters_telling : ℕ → ℕ → List Setup
counters_telling collector zero = []
counters_telling collector (suc n) = set_up name.Counter (collector ∷ []) ∷ counters_telling collector n

-- the source is at place 1, lines at 2, the relay at 3, and the collector behind the counters
abbrev pub built_in_setups : ℕ → List Setup
built_in_setups counters =
    set_up name.Source (2 ∷ 3 ∷ collector_place counters ∷ [])
    ∷ set_up name.Lines (collector_place counters ∷ [])
    ∷ set_up name.Relay (range_with_len 4 counters)
    ∷ (counters_telling (collector_place counters) counters ++ set_up name.Collector [] ∷ [])

-- the source is told to start, and the index is asked for
abbrev pub IsBuiltInScript : ℕ → List Step → Type 0
IsBuiltInScript counters (first ∷ second ∷ []) = IsTold 1 starting first × IsRequested (collector_place counters) asking_index second
IsBuiltInScript counters _ = ⊥

abbrev pub BuiltInIsUndisturbed : Type 0
BuiltInIsUndisturbed = (counters : ℕ) (script : List Step) → 1 ≤ counters → counters ≤ 200 → IsBuiltInScript counters script → IsUndisturbed (built_in_setups counters) script
