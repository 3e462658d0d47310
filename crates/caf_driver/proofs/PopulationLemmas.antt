-- The greatest stamp of the actors, and how many envelopes they handled.
use Rattle.std.proofs.Common.{◌≡◌, ℕ, zero, suc, ◌+◌, ◌≤◌, max, List, [], ◌∷◌, length, map, Some, refl, ap, sym, ◌∙◌, arith}
use Rattle.std.specs.Prelude.{slice_get, slice_set, slice_index_or}
use Rattle.caf_actor.specs.declared.snapshot.Snapshot.{Snapshot}
use Rattle.caf_actor.specs.Rules.{Rules}
use Rattle.caf_actor.specs.Actor.{ActorState}
use Rattle.caf_actor.specs.Record.{Machine, machine_of, latest}
use Rattle.caf_driver.specs.Population.{greatest_of, handled_by}
use Rattle.caf_driver.specs.Driver.{DriverState, journals_of, snapshot_in}

-- ---- the greatest of the places' stamps, from the first place on

latest_front : {S : Type 0} (m : Machine S) (n : ℕ) (at : ℕ → S) → latest m (suc n) at ≡ max (m.stamp_of (at 0)) (latest m n (λ p. at (suc p)))
latest_front m zero at = let none : 0 ≤ m.stamp_of (at 0) = omega arith in omega arith
latest_front m (suc n) at = let h = latest_front m n at in omega arith

module _ {S : Type 0} where
  pub greatest_most : (actors : List (ActorState S)) (p : ℕ) (a : ActorState S) → slice_get actors p ≡ Some a → a.snapshot.stamp ≤ greatest_of actors
  greatest_most [] p a q = cc
  greatest_most (x ∷ xs) zero a q =
      let same : x ≡ a = cc in
      let stamp : x.snapshot.stamp ≡ a.snapshot.stamp = ap (λ (y : ActorState S). y.snapshot.stamp) same in
      omega arith
  greatest_most (x ∷ xs) (suc p) a q = let h = greatest_most xs p a q in omega arith

  pub greatest_set : (actors : List (ActorState S)) (place : ℕ) (before after : ActorState S) → slice_get actors place ≡ Some before → before.snapshot.stamp ≤ after.snapshot.stamp
      → greatest_of (slice_set actors place after) ≡ max (greatest_of actors) after.snapshot.stamp
  greatest_set [] place before after q le = cc
  greatest_set (x ∷ xs) zero before after q le =
      let same : x ≡ before = cc in
      let stamp : x.snapshot.stamp ≡ before.snapshot.stamp = ap (λ (y : ActorState S). y.snapshot.stamp) same in
      omega arith
  greatest_set (x ∷ xs) (suc place) before after q le = let h = greatest_set xs place before after q le in omega arith

  latest_of : (rules : Rules S) (actors : List (ActorState S)) (start : ℕ → Snapshot S)
      → greatest_of actors ≡ latest (machine_of rules) (length (map (λ (a : ActorState S). a.journal) actors)) (λ p. slice_index_or (map (λ (a : ActorState S). a.snapshot) actors) p (start p))
  latest_of rules [] start = refl
  latest_of rules (x ∷ xs) start =
      ap (max x.snapshot.stamp) (latest_of rules xs (λ p. start (suc p)))
      ∙ sym (latest_front (machine_of rules) (length (map (λ (a : ActorState S). a.journal) xs)) (λ p. slice_index_or (map (λ (a : ActorState S). a.snapshot) (x ∷ xs)) p (start p)))

  pub greatest_latest : (rules : Rules S) (start : ℕ → Snapshot S) (d : DriverState S) → greatest_of d.actors ≡ latest (machine_of rules) (length (journals_of d)) (snapshot_in start d)
  greatest_latest rules start d = latest_of rules d.actors start

  pub handled_set : (actors : List (ActorState S)) (place : ℕ) (before after : ActorState S) → slice_get actors place ≡ Some before
      → handled_by (slice_set actors place after) + before.handled ≡ handled_by actors + after.handled
  handled_set [] place before after q = cc
  handled_set (x ∷ xs) zero before after q =
      let same : x ≡ before = cc in
      let count : x.handled ≡ before.handled = ap (λ (y : ActorState S). y.handled) same in
      omega arith
  handled_set (x ∷ xs) (suc place) before after q = let h = handled_set xs place before after q in omega arith
