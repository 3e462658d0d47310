use Rattle.std.proofs.Common.{◌≡◌, ℕ, length, Some}
use Rattle.std.specs.Prelude.{slice_get}
use Rattle.caf_actor.specs.Actor.{ActorState}
use Rattle.caf_driver.specs.Opening.{IsFresh}
use Rattle.caf_scripted.specs.declared.scripted.Scripted.{Scripted}
use Rattle.caf_scripted.specs.Scripted.{scripted_rules}
use Rattle.caf_staged.proofs.opening.opening_actors.Given as goal

abbrev pub invariant-loop-place : goal.invariant-loop-place
invariant-loop-place l = record {
  count : length l.actors ≡ l.place;
  fresh : (p : ℕ) (a : ActorState Scripted) → slice_get l.actors p ≡ Some a → IsFresh scripted_rules (length l.roles) p a;
}
