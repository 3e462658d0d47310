use Rattle.std.proofs.Common.{◌≡◌, ◌++◌, drop, map}
use Rattle.caf_scenario.specs.declared.written.WrittenActor.{WrittenActor}
use Rattle.caf_scenario.proofs.scenario.copied_names.Given as goal

abbrev pub invariant-loop-actor : goal.invariant-loop-actor
invariant-loop-actor l = l.names ++ map (λ (a : WrittenActor). a.name) (drop l.actor-index l.actors) ≡ map (λ (a : WrittenActor). a.name) l.actors
