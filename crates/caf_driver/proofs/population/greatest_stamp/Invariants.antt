use Rattle.std.proofs.Common.{◌≡◌, ◌<◌, ℕ, take, slice_get, Some}
use Rattle.caf_actor.specs.Actor.{ActorState, IsActor}
use Rattle.caf_driver.specs.Population.{greatest_of}
use Rattle.caf_driver.proofs.population.greatest_stamp.Given as goal

abbrev pub invariant-loop-actor : goal.invariant-loop-actor
invariant-loop-actor g l = record {
  stamp : l.greatest ≡ greatest_of (take l.actor-index l.actors);
  work : (p : ℕ) (a : ActorState g.row.B.Denot) → p < l.actor-index → slice_get l.actors p ≡ Some a → IsActor g.B.Behavior.is_valid g.B.Behavior.rules a;
}
