use Rattle.std.proofs.Common.{◌≡◌, map, drop}
use Rattle.serde_json.specs.View.{view}
use Rattle.caf_scenario.specs.StepForm.{step_of}
use Rattle.caf_scenario.specs.Written.{step_seen}
use Rattle.caf_scenario.specs.Read.{each_of}
use Rattle.caf_scenario.proofs.EachLemmas.{with_front}
use Rattle.caf_scenario.proofs.step_form.script_of.Given as goal

abbrev pub invariant-loop-i : goal.invariant-loop-i
invariant-loop-i l = with_front (map step_seen l.steps) (each_of step_of l.i (map view (drop l.i l.elements))) ≡ each_of step_of 0 (map view l.elements)
