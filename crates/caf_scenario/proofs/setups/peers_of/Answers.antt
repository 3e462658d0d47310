use Rattle.std.proofs.Common.{List, ℕ, sym, ap, ◌∙◌}
use Rattle.std.proofs.lemmas.Result.{err_from_is_err_and}
use Rattle.std.specs.BTreeMap.{get_by_text}
use Rattle.caf_scenario.specs.First.{first_of}
use Rattle.caf_scenario.specs.Peers.{peer_fault}
use Rattle.caf_scenario.specs.Scenario.{place_of}
use Rattle.caf_scenario.proofs.FirstLemmas.{goes_by, ends_at}
use Rattle.caf_scenario.proofs.ListLemmas.{mapped_on}
use Rattle.caf_scenario.proofs.setups.peers_of.Goals as goal

pub returns-in_err-place : goal.returns-in_err-place
returns-in_err-place c =
    let p = err_from_is_err_and c.from_residual.result c.from_residual.ensures.1 in
    rw (p.1, p.2) (λ has.
    ap (λ (peers : List (List ℕ)). first_of (peer_fault (get_by_text c.args.names.now) c.args.actor.now) 0 peers) (sym c.as_slice-peers.ensures)
    ∙ ends_at (peer_fault (get_by_text c.args.names.now) c.args.actor.now) c.loop-i.i c.loop-i.i c.as_slice-peers.result.now c.index-peers-i.result _ _
    c.loop-i-test.true c.index-peers-i.is (c.in_err-place.ensures has) c.loop-i.invariant.faults)

pub loop-i-preserved : goal.loop-i-preserved
loop-i-preserved c = record {
  faults = goes_by (peer_fault (get_by_text c.args.names.now) c.args.actor.now) c.loop-i.i c.loop-i.i c.as_slice-peers.result.now c.index-peers-i.result _
      c.loop-i-test.true c.index-peers-i.is c.in_ok-place.ensures.0 c.loop-i.invariant.faults;
  places = rw c.in_ok-push.ensures.added
      (mapped_on (place_of (get_by_text c.args.names.now)) c.loop-i.places c.in_ok-place.place c.as_slice-peers.result.now c.loop-i.i c.index-peers-i.result _
      c.loop-i-test.true c.index-peers-i.is c.in_ok-place.ensures.1 c.loop-i.invariant.places);
}
