-- What is seen of the two kinds of end of a deque.
use Rattle.std.specs.Prelude.{ℕ, ◌+◌, ◌-◌, ◌^◌, ◌≤◌, min, List, []}

-- a count that stops at 2^64 - 1 rose, or stands there
abbrev pub Rose : (before now : ℕ) → Type 0
Rose before now = min (before + 1) (2 ^ 64 - 1) ≤ now

pub record OwnSeen : Type 0 where
  pub puts : List ℕ
  pub drawn : List ℕ
  pub empties : ℕ

pub record OtherSeen : Type 0 where
  pub drawn : List ℕ
  pub empties : ℕ

abbrev pub new_own : OwnSeen
new_own = record { puts = []; drawn = []; empties = 0 }

abbrev pub new_other : OtherSeen
new_other = record { drawn = []; empties = 0 }
