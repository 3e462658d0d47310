use Rattle.caf_scenario.proofs.ListLemmas.{range_on}
use Rattle.caf_scenario.proofs.setups.reserve_of.Goals as goal

pub loop-i-preserved : goal.loop-i-preserved
loop-i-preserved c = range_on c.args.first c.loop-i.i c.loop-i.places c.push.new.self c.in_ok-push.ensures.added c.loop-i.invariant
