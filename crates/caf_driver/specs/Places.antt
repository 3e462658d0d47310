-- Places and senders that have something to offer, each list in rising order.
use Rattle.std.specs.Prelude.{ℕ, ◌<◌, ◌==◌, not, nat_lt, Bool, true, false, if◌then◌else◌, List, [], ◌∷◌, filter}
use Rattle.std.specs.List.{AllByRecursion, list_any}

abbrev pub is_filled : {A : Type 0} → List A → Bool
is_filled [] = false
is_filled (x ∷ xs) = true

abbrev pub IsRising : List ℕ → Type 0
IsRising [] = Unit {0}
IsRising (x ∷ xs) = AllByRecursion (λ y. x < y) xs × IsRising xs

abbrev pub has_place : List ℕ → ℕ → Bool
has_place list place = list_any (λ p. p == place) list

-- before the first that isn't less
abbrev pub place_in : ℕ → List ℕ → List ℕ
place_in place [] = place ∷ []
place_in place (p ∷ ps) = if nat_lt p place then p ∷ place_in place ps else place ∷ p ∷ ps

abbrev pub place_out : ℕ → List ℕ → List ℕ
place_out place list = filter (λ p. not (p == place)) list

abbrev pub first_of : List ℕ → ℕ
first_of [] = 0
first_of (p ∷ ps) = p

-- what wasn't offered counts as the first offered
abbrev pub chosen : List ℕ → ℕ → ℕ
chosen offered choice = if has_place offered choice then choice else first_of offered

-- the first that is greater
abbrev pub next_past : ℕ → List ℕ → List ℕ
next_past place [] = []
next_past place (p ∷ ps) = if nat_lt place p then p ∷ ps else next_past place ps
