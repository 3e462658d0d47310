use Rattle.std.proofs.Common.{◌≡◌, ℕ, List, drop, take}
use Rattle.std.specs.BTreeMap.{get_by_text}
use Rattle.caf_scenario.specs.Actors.{actor_named, actor_fault, actors_fault}
use Rattle.caf_scenario.specs.First.{first_of}
use Rattle.caf_scenario.proofs.names.names_of.Given as goal

-- none of the actors so far has a fault, and these are their names
abbrev pub invariant-loop-i : goal.invariant-loop-i
invariant-loop-i l = record {
  faults : first_of (λ i actor. actor_fault (actor_named (take i l.actors)) i actor) l.i (drop l.i l.actors) ≡ actors_fault l.actors;
  names : (name : List ℕ) → get_by_text l.names name ≡ actor_named (take l.i l.actors) name;
}
