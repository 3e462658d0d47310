-- Merges and traces of small records, computed.
use Rattle.std.proofs.Common.{◌≡◌, ℕ, List, [], ◌∷◌, ◌++◌, map, None, refl}
use Rattle.std.specs.Prelude.{codes}
use Rattle.std.specs.Fmt.{digits}
use Rattle.caf_types.specs.declared.notice.Notice.TheVariants as notice
use Rattle.caf_types.specs.declared.notice.Priority.TheVariants.{Urgent}
use Rattle.caf_message.specs.declared.envelope.Plain.TheVariants as «plain»
use Rattle.caf_message.specs.declared.envelope.Taken.{Taken}
use Rattle.caf_message.specs.Envelope.{no_request}
use Rattle.caf_actor.specs.declared.journal.TakenBatch.{TakenBatch}
use Rattle.caf_record.specs.declared.run_record.RunRecord.{RunRecord}
use Rattle.caf_record.specs.Merged.{merge_of, turns_of, turns_at}
use Rattle.caf_record.specs.Trace.{runs_of, trace_of}

-- an envelope of a place, and a batch of envelopes of these places
abbrev from : ℕ → Taken
from sender = record { sender = sender; seq = 0; mid = no_request sender; priority = Urgent; stamp = 0; body = «plain».System notice.Start }

abbrev batch : ℕ → List ℕ → TakenBatch
batch stamp senders = record { stamp = stamp; taken = map from senders }

abbrev kept : List (List TakenBatch) → RunRecord
kept journals = record { journals = journals; starts = 0 ∷ 0 ∷ 0 ∷ []; cut = None }

-- ---- three places, each with a batch of stamp 3

abbrev pub three : RunRecord
three = kept (
    (batch 1 (256 ∷ []) ∷ batch 3 (2 ∷ []) ∷ batch 5 (1 ∷ 1 ∷ []) ∷ [])
    ∷ (batch 2 (0 ∷ []) ∷ batch 3 (0 ∷ []) ∷ []) ∷ (batch 3 (0 ∷ []) ∷ []) ∷ [])

pub by_stamp_then_place : merge_of three ≡ (0, 0) ∷ (1, 0) ∷ (0, 1) ∷ (1, 1) ∷ (2, 0) ∷ (0, 2) ∷ []
by_stamp_then_place = refl

pub found_again : turns_at three (merge_of three) ≡ turns_of three
found_again = refl

pub trace_of_three : trace_of three
    ≡ codes "t 0 1 256" ++ 10 ∷ (codes "t 1 2 0" ++ 10 ∷ (codes "t 0 3 2" ++ 10 ∷ (codes "t 1 3 0" ++ 10 ∷ (codes "t 2 3 0" ++ 10 ∷ (codes "t 0 5 1*2" ++ 10 ∷ [])))))
unfolding digits
trace_of_three = refl

-- ---- runs of one sender

pub runs_apart : runs_of (map from (2 ∷ 2 ∷ 1 ∷ 2 ∷ 256 ∷ []))
    ≡ record { sender = 2; count = 2 } ∷ record { sender = 1; count = 1 } ∷ record { sender = 2; count = 1 } ∷ record { sender = 256; count = 1 } ∷ []
runs_apart = refl

pub trace_of_runs : trace_of (kept ((batch 12 (2 ∷ 2 ∷ 1 ∷ 2 ∷ 256 ∷ []) ∷ []) ∷ [])) ≡ codes "t 0 12 2*2 1 2 256" ++ 10 ∷ []
unfolding digits
trace_of_runs = refl

-- ---- nothing

pub no_batch : (merge_of (kept ([] ∷ [] ∷ [])) ≡ []) × (trace_of (kept []) ≡ [])
no_batch = (refl, refl)
