-- An actor's count of ticks.
use Rattle.std.specs.Prelude.{ℕ, ◌+◌, min, max}
use Rattle.caf_types.specs.Limits.{last_count}

-- one tick later; the count stops at 2^63
abbrev pub next_tick : ℕ → ℕ
next_tick now = min (now + 1) last_count

-- the count after so many ticks; none counts as one
abbrev pub due_after : ℕ → ℕ → ℕ
due_after now ticks = now + max ticks 1
