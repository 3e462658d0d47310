use Rattle.std.proofs.Common.{◌≤◌, ◌∙◌, length, ap, arith, rules}
use Rattle.std.proofs.lemmas.List.{take_all}
use Rattle.caf_actor.specs.Actor.{IsActor}
use Rattle.caf_driver.specs.Population.{greatest_of}
use Rattle.caf_driver.proofs.ListLemmas.{get_less}
use Rattle.caf_driver.proofs.OpeningLemmas.{greatest_next, with_next}
use Rattle.caf_driver.proofs.population.greatest_stamp.Goals as goal

pub loop-actor-preserved : goal.loop-actor-preserved
loop-actor-preserved g c =
    let inv = c.loop-actor.invariant in
    let next = greatest_next c.args.actors.now c.loop-actor.actor-index c.actor-item.result c.actor-item.is c.loop-actor-test.true in
    record {
      stamp = let before = inv.stamp in let stamp = c.stamp.ensures in let most = c.max-greatest.ensures in omega arith;
      work = with_next (IsActor g.B.Behavior.is_valid g.B.Behavior.rules) c.args.actors.now c.loop-actor.actor-index c.actor-item.result c.actor-item.is c.loop-actor-test.true inv.work c.place.ensures.work;
    }

pub returns-clause-stamp : goal.returns-clause-stamp
returns-clause-stamp g c =
    let past : length c.args.actors.now ≤ c.loop-actor.actor-index = search rules in
    c.loop-actor.invariant.stamp ∙ ap greatest_of (take_all c.loop-actor.actor-index c.args.actors.now past)

pub returns-clause-work : goal.returns-clause-work
returns-clause-work g c = λ p a q.
    let less = get_less c.args.actors.now p a q in
    let past : length c.args.actors.now ≤ c.loop-actor.actor-index = search rules in
    c.loop-actor.invariant.work p a (omega arith) q
