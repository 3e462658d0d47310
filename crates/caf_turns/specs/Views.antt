-- What a seat knows, and how each access changes it.
use Rattle.std.specs.Prelude.{ℕ, ◌+◌, ◌-◌, List, [], ◌∷◌, ◌++◌, Option, Some, None}
use Rattle.caf_turns.specs.declared.step.Step.{Step}
use Rattle.caf_turns.specs.declared.view.View.{View}
use Rattle.caf_turns.specs.Steps.{without}
use Rattle.caf_turns.specs.Limits.{most_splits, all_parts}

module _ {T : Type 0} where
  abbrev pub view : List T → ℕ → ℕ → ℕ → List ℕ → Option ℕ → List Step → View T
  view opening parts splits rooms out hand steps = record { opening = opening; parts = parts; splits = splits; rooms = rooms; out = out; hand = hand; steps = steps }

  abbrev pub spent : View T
  spent = view [] 0 0 0 [] None []

  abbrev pub first_view : List T → View T
  first_view opening = view opening all_parts most_splits 1 [] None []

  -- one split less and one part less, and a new seat with that part
  abbrev pub kept_part : View T → View T
  kept_part v = view v.opening (v.parts - 1) (v.splits - 1) v.rooms v.out v.hand v.steps

  abbrev pub new_part : View T → View T
  new_part v = view v.opening 1 0 0 [] None []

  abbrev pub joined : View T → View T → View T
  joined v w = view v.opening (v.parts + w.parts) v.splits (v.rooms + w.rooms) v.out v.hand (v.steps ++ w.steps)

  abbrev pub stepped : View T → Step → View T
  stepped v e = view v.opening v.parts v.splits v.rooms v.out v.hand (v.steps ++ e ∷ [])

  -- the body i comes into the hand, is out, goes into the hand again, and is back
  abbrev pub lifted : ℕ → View T → View T
  lifted i v = view v.opening v.parts v.splits v.rooms v.out (Some i) v.steps

  abbrev pub carried : ℕ → View T → View T
  carried i v = view v.opening v.parts v.splits v.rooms (i ∷ v.out) None v.steps

  abbrev pub lowered : ℕ → View T → View T
  lowered i v = view v.opening v.parts v.splits v.rooms (without i v.out) (Some i) v.steps

  abbrev pub put : View T → View T
  put v = view v.opening v.parts v.splits v.rooms v.out None v.steps
