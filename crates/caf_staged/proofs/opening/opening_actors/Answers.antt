use Rattle.std.proofs.Common.{◌≡◌, ℕ, List, length, Some, subst, sym, arith}
use Rattle.std.specs.Prelude.{slice_get}
use Rattle.caf_actor.specs.Actor.{ActorState}
use Rattle.caf_driver.specs.Opening.{IsFresh}
use Rattle.caf_scripted.specs.declared.scripted.Scripted.{Scripted}
use Rattle.caf_scripted.specs.Scripted.{scripted_rules}
use Rattle.caf_staged.proofs.OpeningLemmas.{with_one_more, length_more}
use Rattle.caf_staged.proofs.opening.opening_actors.Goals as goal

pub loop-place-preserved : goal.loop-place-preserved
loop-place-preserved c =
    let n : ℕ = length c.args.roles.now in
    let before : List (ActorState Scripted) = c.loop-place.actors in
    let actor : ActorState Scripted = c.in_ok-actor.actor in
    let count = c.loop-place.invariant.count in
    let added = c.in_ok-push.ensures.added in
    record {
      count = length_more before actor c.push.new.self c.loop-place.place added count;
      fresh = λ p a q.
          with_one_more (λ (i : ℕ) (b : ActorState Scripted). IsFresh scripted_rules n i b) before actor c.loop-place.invariant.fresh
          (subst (λ (i : ℕ). IsFresh scripted_rules n i actor) (sym count) c.in_ok-actor.ensures) p a
          (subst (λ (xs : List (ActorState Scripted)). slice_get xs p ≡ Some a) added q);
    }

pub returns-clause-fresh : goal.returns-clause-fresh
returns-clause-fresh c =
    let all : length c.args.roles.now ≡ length c.loop-place.actors = let count = c.loop-place.invariant.count in omega arith in
    subst (λ (n : ℕ). (p : ℕ) (a : ActorState Scripted) → slice_get c.loop-place.actors p ≡ Some a → IsFresh scripted_rules n p a) all c.loop-place.invariant.fresh
