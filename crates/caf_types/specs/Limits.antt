-- The numbers that several layers cite.
use Rattle.std.specs.Prelude.{ℕ}
use Rattle.caf_types.specs.declared.limits.TheConstants.{PLACES, OUTSIDE, LATEST_STAMP, LAST_COUNT}

-- how many places a run has at most
abbrev pub places : ℕ
places = PLACES

-- the sender number of the outside
abbrev pub outside : ℕ
outside = OUTSIDE

abbrev pub latest_stamp : ℕ
latest_stamp = LATEST_STAMP

-- the last number of a request, and the last count of ticks
abbrev pub last_count : ℕ
last_count = LAST_COUNT
