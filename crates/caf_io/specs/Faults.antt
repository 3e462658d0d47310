-- Counts of faults. A count is kept in 64 bits and stops at the greatest number that these hold.
use Rattle.std.specs.Prelude.{ℕ, ◌+◌, ◌-◌, ◌^◌, ◌≤◌, min}

-- the count after one more
abbrev pub next_count : ℕ → ℕ
next_count before = min (before + 1) (2 ^ 64 - 1)

-- the count rose, or stands at its end
abbrev pub Rose : (before now : ℕ) → Type 0
Rose before now = next_count before ≤ now
