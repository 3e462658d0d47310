-- What a play of a scenario over files is.
use Rattle.std.specs.Prelude.{◌≡◌, ℕ, ◌+◌, ◌≤◌, List, length, slice_get, Some}
use Rattle.caf_actor.specs.declared.snapshot.Snapshot.{Snapshot}
use Rattle.caf_actor.specs.Record.{ends}
use Rattle.caf_record.specs.RunRecord.{record_of, HasStarts}
use Rattle.caf_driver.specs.Opening.{StartsAt}
use Rattle.caf_kinds.specs.declared.kind.Kind.{Kind}
use Rattle.caf_opening.specs.Opening.{opening_of, AreKnown}
use Rattle.caf_play.specs.Ending.{machine, ticks_of, IsLegalWithin, EndsAs}
use Rattle.caf_play.specs.declared.played.Played.{Played}
use Rattle.caf_scenario.specs.declared.scenario.Scenario.{Scenario}

-- over these snapshots the record is legal, and ended as it calls for; the behaviours are those at its end
pub record IsPlayFrom (start : ℕ → Snapshot Kind) (scenario : Scenario) (budget : ℕ) (played : Played) : Type 0 where
  pub starts : HasStarts machine start played.kept
  pub legal : IsLegalWithin (ticks_of scenario.script) (record_of start played.kept)
  pub ended : EndsAs (ticks_of scenario.script) budget (record_of start played.kept) played.end
  pub kinds : (place : ℕ) (kind : Kind) → slice_get played.kinds place ≡ Some kind → (ends machine (record_of start played.kept) place).behavior ≡ kind

-- so it is over the snapshots with which the scenario's actors begin, where the source has these files; the actors
-- are a conductor at place 0 and those of the setups
pub record IsPlay (scenario : Scenario) (files : List (List ℕ)) (budget : ℕ) (played : Played) : Type 0 where
  pub count : length played.kinds ≡ length scenario.setups + 1
  pub places : length played.kept.journals ≡ length scenario.setups + 1
  pub few : length scenario.setups ≤ 255
  pub known : AreKnown (opening_of scenario.setups scenario.script files)
  pub plays : (start : ℕ → Snapshot Kind) → StartsAt start (opening_of scenario.setups scenario.script files) → IsPlayFrom start scenario budget played
