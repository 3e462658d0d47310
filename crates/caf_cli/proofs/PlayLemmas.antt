-- What a play promises, put together.
use Rattle.std.proofs.Common.{◌≡◌, ℕ, ◌+◌, ◌≤◌, List, length, Some, refl}
use Rattle.std.specs.Prelude.{slice_get, Result, Ok, Err, IfOk, OnOk}
use Rattle.caf_actor.specs.declared.snapshot.Snapshot.{Snapshot}
use Rattle.caf_actor.specs.Record.{Kept, ends, heard, IsComplete}
use Rattle.caf_record.specs.RunRecord.{record_of, HasStarts}
use Rattle.caf_driver.specs.Opening.{StartsAt}
use Rattle.caf_kinds.specs.declared.kind.Kind.{Kind}
use Rattle.caf_opening.specs.Opening.{opening_of, AreKnown}
use Rattle.caf_play.specs.Ending.{machine, ticks_of, IsLegalWithin, IsOverBudget, IsExhausted, EndsAs}
use Rattle.caf_play.specs.declared.played.Played.{Played}
use Rattle.caf_play.specs.declared.played.PlayEnd.{PlayEnd}
use Rattle.caf_play.specs.declared.played.PlayEnd.TheVariants as play
use Rattle.caf_scenario.specs.declared.scenario.Scenario.{Scenario}
use Rattle.caf_cli.specs.Play.{IsPlay}

ends_as : (ticks budget : ℕ) (k : Kept (Snapshot Kind)) (e : PlayEnd)
    → (e ≡ play.Done → IsComplete machine ticks k) → (e ≡ play.Done → length (heard (k.journal 0)) ≡ ticks + 1)
    → (e ≡ play.Budget → IsOverBudget ticks budget k) → ((place : ℕ) → e ≡ play.Exhausted place → IsExhausted ticks budget k place)
    → EndsAs ticks budget k e
ends_as ticks budget k play.Done complete told over spent = record { complete = complete refl; heard = told refl }
ends_as ticks budget k play.Budget complete told over spent = over refl
ends_as ticks budget k (play.Exhausted place) complete told over spent = spent place refl

module _ {E : Type 0} (scenario : Scenario) (files : List (List ℕ)) (budget : ℕ) where
  -- of each start, where the play came to an end
  abbrev FromStart : Result Played E → ((ℕ → Snapshot Kind) → Played → Type 0) → Type 0
  FromStart result P = (start : ℕ → Snapshot Kind) → StartsAt start (opening_of scenario.setups scenario.script files) → IfOk result (P start)

  pub is_play : (result : Result Played E) → length scenario.setups ≤ 255
      → FromStart result (λ start played. IsLegalWithin (ticks_of scenario.script) (record_of start played.kept))
      → FromStart result (λ start played. played.end ≡ play.Done → IsComplete machine (ticks_of scenario.script) (record_of start played.kept))
      → FromStart result (λ start played. played.end ≡ play.Done → length (heard ((record_of start played.kept).journal 0)) ≡ ticks_of scenario.script + 1)
      → FromStart result (λ start played. played.end ≡ play.Budget → IsOverBudget (ticks_of scenario.script) budget (record_of start played.kept))
      → FromStart result (λ start played. (place : ℕ) → played.end ≡ play.Exhausted place → IsExhausted (ticks_of scenario.script) budget (record_of start played.kept) place)
      → FromStart result (λ start played. (place : ℕ) (kind : Kind) → slice_get played.kinds place ≡ Some kind → (ends machine (record_of start played.kept) place).behavior ≡ kind)
      → FromStart result (λ start played. HasStarts machine start played.kept)
      → OnOk result (AreKnown (opening_of scenario.setups scenario.script files))
      → IfOk result (λ played. (length played.kinds ≡ length scenario.setups + 1) × (length played.kept.journals ≡ length scenario.setups + 1))
      → IfOk result (IsPlay scenario files budget)
  is_play (Ok played) few legal complete told over spent kinds starts known count = record {
    count = count.0;
    places = count.1;
    few = few;
    known = known;
    plays = λ start begins. record {
      starts = starts start begins;
      legal = legal start begins;
      ended = ends_as (ticks_of scenario.script) budget (record_of start played.kept) played.end (complete start begins) (told start begins) (over start begins) (spent start begins);
      kinds = kinds start begins;
    };
  }
  is_play (Err e) few legal complete told over spent kinds starts known count = tt
