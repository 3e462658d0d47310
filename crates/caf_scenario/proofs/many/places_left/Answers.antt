use Rattle.std.proofs.Common.{arith}
use Rattle.caf_scenario.proofs.ManyLemmas.{children_more}
use Rattle.caf_scenario.proofs.many.places_left.Goals as goal

pub loop-actor-preserved : goal.loop-actor-preserved
loop-actor-preserved c =
    omega (arith, children_more c.args.actors.now c.loop-actor.actor-index c.actor-item.result c.loop-actor-test.true c.actor-item.is)
