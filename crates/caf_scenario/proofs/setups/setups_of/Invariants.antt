use Rattle.std.proofs.Common.{◌≡◌, ◌+◌, ◌++◌, drop, length}
use Rattle.std.specs.BTreeMap.{get_by_text}
use Rattle.caf_scenario.specs.Many.{all_children, places_used}
use Rattle.caf_scenario.specs.First.{first_of}
use Rattle.caf_scenario.specs.Peers.{peers_fault_of, peers_fault}
use Rattle.caf_scenario.specs.Scenario.{setups_said}
use Rattle.caf_scenario.proofs.setups.setups_of.Given as goal

-- none of the actors so far has a fault; their setups stand in front of those of the others, whose reserved places go on
abbrev pub invariant-loop-actor : goal.invariant-loop-actor
invariant-loop-actor l = record {
  faults : first_of (λ i actor. peers_fault_of (get_by_text l.names) actor) l.actor-index (drop l.actor-index l.actors) ≡ peers_fault (get_by_text l.names) l.actors;
  setups : l.setups ++ setups_said (get_by_text l.names) l.first (drop l.actor-index l.actors) ≡ setups_said (get_by_text l.names) (length l.actors + 1) l.actors;
  first : l.first + all_children (drop l.actor-index l.actors) ≡ places_used l.actors + 1;
}
