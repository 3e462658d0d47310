-- The accesses of a seat, and what they tell.
use Rattle.std.specs.Prelude.{◌≡◌, ◌⊎◌, ℕ, ◌+◌, ◌≤◌, ◌==◌, if◌then◌else◌, List, [], ◌∷◌, Option, Some, None}
use Rattle.caf_turns.specs.declared.step.Step.{Step}
use Rattle.caf_turns.specs.declared.step.Step.TheVariants.{Announce, Claim, Look, Settle, Free}

-- the number i stands in a list
abbrev pub IsIn : ℕ → List ℕ → Type 0
IsIn i [] = ⊥
IsIn i (x ∷ xs) = (i ≡ x) ⊎ IsIn i xs

-- a list with the number i left out
abbrev pub without : ℕ → List ℕ → List ℕ
without i [] = []
without i (x ∷ xs) = if i == x then without i xs else x ∷ without i xs

-- how many of these steps announce
abbrev pub announces : Step → ℕ
announces (Announce i r) = 1
announces (Claim i r) = 0
announces (Look i r) = 0
announces (Settle i k r) = 0
announces (Free i) = 0

abbrev pub announced : List Step → ℕ
announced [] = 0
announced (e ∷ es) = announces e + announced es

-- what is known by looks at i after one more step, and after these steps, from what was known before
abbrev pub known_after : ℕ → Option ℕ → Step → Option ℕ
known_after i x (Announce j r) = x
known_after i x (Claim j r) = if i == j then None else x
known_after i x (Look j r) = if i == j then Some r else x
known_after i x (Settle j k r) = if i == j then None else x
known_after i x (Free j) = if i == j then None else x

abbrev pub known : ℕ → Option ℕ → List Step → Option ℕ
known i x [] = x
known i x (e ∷ es) = known i (known_after i x e) es

-- what the last look at i read, if no settle, claim or free of i stands after it
abbrev pub last_look : ℕ → List Step → Option ℕ
last_look i es = known i None es

-- a look read at least k
abbrev pub ReadsAtLeast : ℕ → Option ℕ → Type 0
ReadsAtLeast k None = ⊥
ReadsAtLeast k (Some r) = k ≤ r
