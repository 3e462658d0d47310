-- The first fault among some things.
use Rattle.std.specs.Prelude.{ℕ, ◌+◌, List, [], ◌∷◌, Option, None}
use Rattle.caf_scenario.specs.Read.{Cause, or_else}

-- each in order, the first of them at position i
abbrev pub first_of : {A : Type 0} → (ℕ → A → Option Cause) → ℕ → List A → Option Cause
first_of fault i [] = None
first_of fault i (x ∷ xs) = or_else (fault i x) (first_of fault (i + 1) xs)
