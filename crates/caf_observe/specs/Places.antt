-- Sets of places, each as the list of its places in rising order.
use Rattle.std.specs.Prelude.{ℕ, Bool, ◌==◌, not, nat_lt, List, ◌∷◌, ◌++◌, filter}
use Rattle.std.specs.List.{list_any}

abbrev pub has_place : List ℕ → ℕ → Bool
has_place places place = list_any (λ p. p == place) places

-- the places below it, it, and the places above it
abbrev pub with_place : List ℕ → ℕ → List ℕ
with_place places place = filter (λ p. nat_lt p place) places ++ place ∷ filter (λ p. nat_lt place p) places

-- the other places
abbrev pub without_place : List ℕ → ℕ → List ℕ
without_place places place = filter (λ p. not (p == place)) places
