use Rattle.std.proofs.Common.{◌≡◌, ◌++◌}
use Rattle.caf_scenario.specs.Builtin.{counters_telling}
use Rattle.caf_scenario.proofs.built_in.push_counters.Given as goal

abbrev pub invariant-loop : goal.invariant-loop
invariant-loop l = l.setups ≡ l.fn.setups ++ counters_telling l.collector l.counter
