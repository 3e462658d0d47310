use Rattle.std.proofs.Common.{◌≡◌, None, take, subst}
use Rattle.std.proofs.Math.Path.{fun_ext}
use Rattle.std.specs.BTreeMap.{get_by_text}
use Rattle.caf_scenario.specs.Actors.{Finder, actor_named, actor_fault}
use Rattle.caf_scenario.proofs.FirstLemmas.{goes_by}
use Rattle.caf_scenario.proofs.NamesLemmas.{entered}
use Rattle.caf_scenario.proofs.names.names_of.Goals as goal

pub loop-i-preserved : goal.loop-i-preserved
loop-i-preserved c =
    let actors = c.args.actors.now in
    let same : get_by_text c.loop-i.names ≡ actor_named (take c.loop-i.i actors) = fun_ext c.loop-i.invariant.names in
    let none : actor_fault (actor_named (take c.loop-i.i actors)) c.loop-i.i c.index-actors-i.result ≡ None =
    subst (λ (who : Finder). actor_fault who c.loop-i.i c.index-actors-i.result ≡ None) same c.in_ok-enter.ensures.0 in
    record {
      faults = goes_by (λ i actor. actor_fault (actor_named (take i actors)) i actor) c.loop-i.i c.loop-i.i actors c.index-actors-i.result _
          c.loop-i-test.true c.index-actors-i.is none c.loop-i.invariant.faults;
      names = entered actors c.loop-i.i c.index-actors-i.result (get_by_text c.loop-i.names) (get_by_text c.enter.new.names)
          c.loop-i-test.true c.index-actors-i.is c.loop-i.invariant.names c.in_ok-enter.ensures.1;
    }
