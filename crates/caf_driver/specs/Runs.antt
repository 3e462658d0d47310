-- A batch that a list of runs names: the next so many of one sender, then those of another.
use Rattle.std.specs.Prelude.{ℕ, ◌≤◌, ◌==◌, ◌&&◌, not, nat_lt, Bool, true, if◌then◌else◌, List, [], ◌∷◌, ◌++◌, length, slice_index_or, take, drop}
use Rattle.caf_message.specs.declared.envelope.Taken.{Taken}
use Rattle.caf_driver.specs.declared.sender_run.SenderRun.{SenderRun}
use Rattle.caf_driver.specs.Places.{is_filled}
use Rattle.caf_driver.specs.Arrivals.{Arriving, from_sender, has_last}

-- ---- one run, of what waits by sender

-- what it takes
abbrev pub taken_by_run : (ℕ → List Taken) → SenderRun → List Taken
taken_by_run waiting run = take run.count (waiting run.sender)

-- so many wait
abbrev pub is_next : (ℕ → List Taken) → SenderRun → Bool
is_next waiting run = not (nat_lt (length (waiting run.sender)) run.count)

-- what it leaves
abbrev pub without_run : (ℕ → List Taken) → SenderRun → ℕ → List Taken
without_run waiting run a = if a == run.sender then drop run.count (waiting a) else waiting a

-- ---- one run after the other, each of what those before it leave

abbrev pub taken_by_runs : (ℕ → List Taken) → List SenderRun → List Taken
taken_by_runs waiting [] = []
taken_by_runs waiting (run ∷ runs) = taken_by_run waiting run ++ taken_by_runs (without_run waiting run) runs

abbrev pub are_next : (ℕ → List Taken) → List SenderRun → Bool
are_next waiting [] = true
are_next waiting (run ∷ runs) = is_next waiting run && are_next (without_run waiting run) runs

-- they name next envelopes alone, at least one, and none with the last stamp
abbrev pub is_batch : (ℕ → List Taken) → List SenderRun → Bool
is_batch waiting runs = are_next waiting runs && (is_filled (taken_by_runs waiting runs) && not (has_last (taken_by_runs waiting runs)))

-- ---- the same, run by run

-- so many wait, and none of them has the last stamp
abbrev pub is_offered_run : (ℕ → List Taken) → SenderRun → Bool
is_offered_run waiting run = is_next waiting run && not (has_last (taken_by_run waiting run))

abbrev pub are_offered : (ℕ → List Taken) → List SenderRun → Bool
are_offered waiting [] = true
are_offered waiting (run ∷ runs) = is_offered_run waiting run && are_offered (without_run waiting run) runs

-- ---- what waits behind the first so many of each sender

abbrev pub count_at : List ℕ → ℕ → ℕ
count_at taken a = slice_index_or taken a 0

abbrev pub left_past : Arriving → List ℕ → ℕ → List Taken
left_past w taken a = drop (count_at taken a) (from_sender w a)

-- no more than wait
abbrev pub HasCounts : Arriving → List ℕ → Type 0
HasCounts w taken = (a : ℕ) → count_at taken a ≤ length (from_sender w a)
