use Rattle.std.proofs.Common.{◌≡◌, ◌++◌, map}
use Rattle.caf_actor.specs.Actor.{ActorState}
use Rattle.caf_kinds.specs.declared.kind.Kind.{Kind}
use Rattle.caf_play.specs.Parting.{kinds_of}
use Rattle.caf_play.proofs.parting.parts_of.Given as goal

-- the parts so far, and those of the actors that are left
abbrev pub invariant-loop-actor : goal.invariant-loop-actor
invariant-loop-actor l = record {
  kinds : l.kinds ++ kinds_of l.actor-iterator.rest.items ≡ kinds_of l.fn.actors;
  journals : l.journals ++ map (λ (a : ActorState Kind). a.journal) l.actor-iterator.rest.items ≡ map (λ (a : ActorState Kind). a.journal) l.fn.actors;
}
