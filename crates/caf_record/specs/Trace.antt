-- The trace of a stored record: a line for each batch of the merge.
use Rattle.std.specs.Prelude.{ℕ, ◌+◌, ◌==◌, nat_lt, if◌then◌else◌, List, [], ◌∷◌, ◌++◌, decimal, flat_map}
use Rattle.caf_message.specs.declared.envelope.Taken.{Taken}
use Rattle.caf_actor.specs.Run.{Turn}
use Rattle.caf_record.specs.declared.run_record.RunRecord.{RunRecord}
use Rattle.caf_record.specs.Merged.{turns_of}

-- ---- runs of one sender

-- so many envelopes of one sender, one after another
pub record SenderRun : Type 0 where
  pub sender : ℕ
  pub count : ℕ

-- one more of a sender, before these runs
abbrev pub one_before : ℕ → List SenderRun → List SenderRun
one_before sender [] = record { sender = sender; count = 1 } ∷ []
one_before sender (r ∷ rs) = if r.sender == sender then record r { count = r.count + 1 } ∷ rs else record { sender = sender; count = 1 } ∷ r ∷ rs

-- the longest runs of one sender, in the order taken
abbrev pub runs_of : List Taken → List SenderRun
runs_of [] = []
runs_of (e ∷ es) = one_before e.sender (runs_of es)

-- ---- lines

-- a space and the number
abbrev pub number_text : ℕ → List ℕ
number_text n = 32 ∷ decimal n

-- the sender and, where they are two or more, `*` and how many they are
abbrev pub run_text : SenderRun → List ℕ
run_text r = number_text r.sender ++ (if nat_lt 1 r.count then 42 ∷ decimal r.count else [])

-- `t`, the place, the stamp, the runs, and byte 10
abbrev pub line_of : Turn → List ℕ
line_of t = 116 ∷ (number_text t.place ++ (number_text t.batch.stamp ++ (flat_map run_text (runs_of t.batch.taken) ++ 10 ∷ [])))

abbrev pub trace_of : RunRecord → List ℕ
trace_of kept = flat_map line_of (turns_of kept)
