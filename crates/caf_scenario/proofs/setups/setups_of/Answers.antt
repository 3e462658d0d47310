use Rattle.std.proofs.lemmas.Result.{err_from_is_err_and}
use Rattle.std.specs.BTreeMap.{get_by_text}
use Rattle.caf_scenario.specs.Peers.{peers_fault_of}
use Rattle.caf_scenario.proofs.FirstLemmas.{ends_at}
use Rattle.caf_scenario.proofs.setups.setups_of.Goals as goal

pub returns-in_err-peers : goal.returns-in_err-peers
returns-in_err-peers c =
    let p = err_from_is_err_and c.from_residual.result c.from_residual.ensures.1 in
    rw (p.1, p.2) (λ has.
    ends_at (λ i actor. peers_fault_of (get_by_text c.args.names.now) actor) c.loop-actor.actor-index c.loop-actor.actor-index c.args.actors.now c.actor-item.result _ _
    c.loop-actor-test.true c.actor-item.is (c.in_err-peers.ensures has) c.loop-actor.invariant.faults)
