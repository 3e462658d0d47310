use Rattle.std.proofs.Common.{◌≡◌, ◌++◌}
use Rattle.caf_scenario.specs.Scenario.{children}
use Rattle.caf_scenario.proofs.setups.push_children.Given as goal

abbrev pub invariant-loop : goal.invariant-loop
invariant-loop l = l.setups ≡ l.fn.setups ++ children l.counter
