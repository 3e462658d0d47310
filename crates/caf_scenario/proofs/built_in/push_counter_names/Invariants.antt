use Rattle.std.proofs.Common.{◌≡◌, ◌++◌, map}
use Rattle.std.specs.List.{range_with_len}
use Rattle.caf_scenario.specs.Builtin.{counter_name}
use Rattle.caf_scenario.proofs.built_in.push_counter_names.Given as goal

abbrev pub invariant-loop-before : goal.invariant-loop-before
invariant-loop-before l = l.names ≡ l.fn.names ++ map counter_name (range_with_len 1 l.before)
