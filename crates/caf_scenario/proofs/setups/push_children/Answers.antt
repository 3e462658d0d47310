use Rattle.caf_scenario.proofs.ListLemmas.{children_on}
use Rattle.caf_scenario.proofs.setups.push_children.Goals as goal

pub loop-preserved : goal.loop-preserved
loop-preserved c = children_on c.loop.counter c.args.setups.now c.loop.setups c.push.new.self c.child.result c.in_ok-push.ensures.added c.child.ensures c.loop.invariant
