-- The first item of a list that passes a test.
use Rattle.std.specs.Prelude.{Bool, List, [], ◌∷◌, Option, Some, None, if◌then◌else◌}

-- an item, before which another one stood that stays
abbrev pub keep : {A : Type 0} → A → Option (A × List A) → Option (A × List A)
keep x None = None
keep x (Some p) = Some (p.0, x ∷ p.1)

-- the first item that passes, and the others in their order
abbrev pub pick : {A : Type 0} → (A → Bool) → List A → Option (A × List A)
pick test [] = None
pick test (x ∷ xs) = if test x then Some (x, xs) else keep x (pick test xs)
