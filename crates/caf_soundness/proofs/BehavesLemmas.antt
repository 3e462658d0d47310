-- Every kind behaves: one line a kind.
use Rattle.std.specs.Prelude.{ℕ, List}
use Rattle.caf_actor.specs.PlainInput.{PlainInput}
use Rattle.caf_kinds.specs.Kinds.{kind_rules, reacted}
use Rattle.caf_kinds.specs.declared.kind.Kind.{Kind}
use Rattle.caf_kinds.specs.declared.kind.Kind.TheVariants as kind
use Rattle.caf_kinds.specs.declared.setup.Setup.{Setup}
use Rattle.caf_soundness.specs.Typed.{face}
use Rattle.caf_soundness.proofs.LogLemmas.{Log}
use Rattle.caf_soundness.proofs.ComesLemmas.{Given, Behaves}
use Rattle.caf_soundness.proofs.KindLemmas.{IsSet, Acts, does, set_on}
use Rattle.caf_soundness.proofs.AnsweringLemmas.{echo_acts, cell_acts, calc_acts, quitter_acts}
use Rattle.caf_soundness.proofs.HoldingLemmas.{holder_acts, collector_acts}
use Rattle.caf_soundness.proofs.WatchingLemmas.{watcher_acts, alarm_acts}
use Rattle.caf_soundness.proofs.TellingLemmas.{source_acts, lines_acts, counter_acts}
use Rattle.caf_soundness.proofs.DelegatingLemmas.{relay_acts, spawner_acts}
use Rattle.caf_soundness.proofs.ConductorLemmas.{conductor_acts}

module _ (setups : List Setup) where
  acts : (l : Log) (place : ℕ) (k : Kind) (i : PlainInput) → IsSet setups l place k → Given (face setups) l place i → Acts setups l place i (reacted k i)
  acts l place (kind.Echo s) i set given = echo_acts setups l place s i
  acts l place (kind.Cell s) i set given = cell_acts setups l place s i
  acts l place (kind.Calc s) i set given = calc_acts setups l place s i
  acts l place (kind.Holder s) i set given = holder_acts setups l place s i set given
  acts l place (kind.Quitter s) i set given = quitter_acts setups l place s i
  acts l place (kind.Source s) i set given = source_acts setups l place s i set
  acts l place (kind.Relay s) i set given = relay_acts setups l place s i set
  acts l place (kind.Counter s) i set given = counter_acts setups l place s i set
  acts l place (kind.Lines s) i set given = lines_acts setups l place s i set
  acts l place (kind.Collector s) i set given = collector_acts setups l place s i set given
  acts l place (kind.Watcher s) i set given = watcher_acts setups l place s i set given
  acts l place (kind.Spawner s) i set given = spawner_acts setups l place s i set
  acts l place (kind.Alarm s) i set given = alarm_acts setups l place s i set given
  acts l place (kind.Conductor s) i set given = conductor_acts setups l place s i set.holds

  pub kinds_behave : Behaves (face setups) kind_rules (IsSet setups)
  kinds_behave = record {
    grows = λ l m place k grow set. set_on setups l m place k grow set;
    takes = λ l place k set. set.takes;
    does = λ l place k i set given. does setups l place k i set given (acts l place k i set given);
  }
