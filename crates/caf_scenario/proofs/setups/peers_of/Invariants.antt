use Rattle.std.proofs.Common.{◌≡◌, ◌++◌, drop, map}
use Rattle.std.specs.BTreeMap.{get_by_text}
use Rattle.caf_scenario.specs.First.{first_of}
use Rattle.caf_scenario.specs.Peers.{peer_fault}
use Rattle.caf_scenario.specs.Scenario.{place_of}
use Rattle.caf_scenario.proofs.setups.peers_of.Given as goal

abbrev pub invariant-loop-i : goal.invariant-loop-i
invariant-loop-i l = record {
  faults : first_of (peer_fault (get_by_text l.names) l.actor) l.i (drop l.i l.peers) ≡ first_of (peer_fault (get_by_text l.names) l.actor) 0 l.peers;
  places : l.places ++ map (place_of (get_by_text l.names)) (drop l.i l.peers) ≡ map (place_of (get_by_text l.names)) l.peers;
}
