use Rattle.caf_scenario.proofs.BuiltinLemmas.{names_on}
use Rattle.caf_scenario.proofs.built_in.push_counter_names.Goals as goal

pub loop-before-preserved : goal.loop-before-preserved
loop-before-preserved c = names_on c.loop-before.before c.args.names.now c.loop-before.names c.push.new.self c.in_ok-name.name c.in_ok-push.ensures.added c.in_ok-name.ensures c.loop-before.invariant
