-- Where a key stands in entries whose keys rise.
use Rattle.std.specs.Prelude.{◌≡◌, ℕ, ◌<◌, ◌≤◌, List, length, slice_index_or}
use Rattle.std.specs.List.{AllWithin}

-- the key stands at that place
abbrev pub IsFoundAt : {X : Type 0} → List (ℕ × X) → ℕ → ℕ → Type 0
IsFoundAt {X} entries key place = (place < length entries) × ((d : ℕ × X) → (slice_index_or entries place d).0 ≡ key)

-- the keys before that place are below the key, and the one at it is above
abbrev pub IsPlaceFor : {X : Type 0} → List (ℕ × X) → ℕ → ℕ → Type 0
IsPlaceFor {X} entries key place =
    (place ≤ length entries) × AllWithin (λ e. e.0 < key) entries 0 place
    × ((d : ℕ × X) → place < length entries → key < (slice_index_or entries place d).0)
