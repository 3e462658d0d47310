-- A run of the machine that goes on by one step.
use Rattle.std.proofs.Common.{◌≡◌, ℕ, ◌==◌, Bool, true, false, List, [], ◌∷◌, ◌++◌, refl, ap}
use Rattle.caf_actor.specs.Record.{Machine, after}
use Rattle.caf_actor.specs.Run.{State, Step, Take, Speak, IsPossible, take_batch, send_notice, step, run, IsRun, batches_of}

pub batches_append : (p : ℕ) (xs ys : List Step) → batches_of p (xs ++ ys) ≡ batches_of p xs ++ batches_of p ys
batches_append p [] ys = refl
batches_append p (Take t ∷ xs) ys = go (p == t.place) refl (batches_append p xs ys)
  where
    go : (c : Bool) → (p == t.place) ≡ c → batches_of p (xs ++ ys) ≡ batches_of p xs ++ batches_of p ys → batches_of p (Take t ∷ xs ++ ys) ≡ batches_of p (Take t ∷ xs) ++ batches_of p ys
    go true q h = rw q (ap (λ bs. t.batch ∷ bs) h)
    go false q h = rw q h
batches_append p (Speak ∷ xs) ys = batches_append p xs ys

module _ {S : Type 0} (m : Machine S) (ticks : ℕ) where
  pub run_append : (s : State S) (xs ys : List Step) → run m ticks s (xs ++ ys) ≡ run m ticks (run m ticks s xs) ys
  run_append s [] ys = refl
  run_append s (x ∷ xs) ys = run_append (step m ticks s x) xs ys

  pub run_more : (s : State S) (xs : List Step) (x : Step) → IsRun m ticks s xs → IsPossible m ticks (run m ticks s xs) x → IsRun m ticks s (xs ++ x ∷ [])
  run_more s [] x h possible = (possible, tt)
  run_more s (y ∷ ys) x h possible = (h.0, run_more (step m ticks s y) ys x h.1 possible)

  pub same_places : (s : State S) (steps : List Step) → (run m ticks s steps).places ≡ s.places
  same_places s [] = refl
  same_places s (Take t ∷ steps) = same_places (take_batch m s t) steps
  same_places s (Speak ∷ steps) = same_places (send_notice m ticks s) steps

  -- each place stands where its batches lead
  pub place_at : (s : State S) (steps : List Step) (p : ℕ) → (run m ticks s steps).snapshot p ≡ after m (s.snapshot p) (batches_of p steps)
  place_at s [] p = refl
  place_at s (Take t ∷ steps) p = go (p == t.place) refl (place_at (take_batch m s t) steps p)
    where
      go : (c : Bool) → (p == t.place) ≡ c → (run m ticks (take_batch m s t) steps).snapshot p ≡ after m ((take_batch m s t).snapshot p) (batches_of p steps)
          → (run m ticks (take_batch m s t) steps).snapshot p ≡ after m (s.snapshot p) (batches_of p (Take t ∷ steps))
      go true q h = rw q (rw q at h)
      go false q h = rw q (rw q at h)
  place_at s (Speak ∷ steps) p = place_at (send_notice m ticks s) steps p
