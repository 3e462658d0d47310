use Rattle.std.proofs.Common.{◌≡◌, ◌≤◌, take}
use Rattle.std.specs.Prelude.{count_by}
use Rattle.caf_play.specs.Ending.{is_tick}
use Rattle.caf_play.proofs.playing.ticks_of.Given as goal

abbrev pub invariant-loop-step : goal.invariant-loop-step
invariant-loop-step l = record {
  counted : l.ticks ≡ count_by is_tick (take l.step-index l.script);
  few : l.ticks ≤ l.step-index;
}
