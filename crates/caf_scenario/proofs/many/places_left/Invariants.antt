use Rattle.std.proofs.Common.{◌≡◌, ◌+◌, drop}
use Rattle.caf_scenario.specs.Many.{all_children, places_used}
use Rattle.caf_scenario.proofs.many.places_left.Given as goal

-- what is left is for the children of the actors to come
abbrev pub invariant-loop-actor : goal.invariant-loop-actor
invariant-loop-actor l = places_used l.actors + l.left ≡ 255 + all_children (drop l.actor-index l.actors)
