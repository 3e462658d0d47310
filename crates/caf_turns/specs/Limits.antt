-- The bounds of a set of seats.
use Rattle.std.specs.Prelude.{ℕ, ◌+◌}
use Rattle.caf_turns.specs.declared.limits.TheConstants.{MOST_SPLITS, MOST_ANNOUNCEMENTS, MOST_DUE}

abbrev pub most_splits : ℕ
most_splits = MOST_SPLITS

-- the first seat has one part for itself and one for each seat that may be split from it
abbrev pub all_parts : ℕ
all_parts = MOST_SPLITS + 1

abbrev pub most_announcements : ℕ
most_announcements = MOST_ANNOUNCEMENTS

abbrev pub most_due : ℕ
most_due = MOST_DUE
