use Rattle.std.proofs.Common.{◌≡◌, ◌++◌, drop, map}
use Rattle.std.specs.BTreeMap.{get_by_text}
use Rattle.caf_scenario.specs.First.{first_of}
use Rattle.caf_scenario.specs.Written.{step_seen}
use Rattle.caf_scenario.specs.Steps.{step_fault, steps_fault}
use Rattle.caf_scenario.specs.Scenario.{plain_step, step_said}
use Rattle.caf_scenario.proofs.steps.steps_of.Given as goal

abbrev pub invariant-loop-i : goal.invariant-loop-i
invariant-loop-i l = record {
  faults : first_of (step_fault (get_by_text l.names)) l.i (map step_seen (drop l.i l.steps)) ≡ steps_fault (get_by_text l.names) (map step_seen l.steps);
  steps : map plain_step l.script ++ map (step_said (get_by_text l.names)) (map step_seen (drop l.i l.steps)) ≡ map (step_said (get_by_text l.names)) (map step_seen l.steps);
}
