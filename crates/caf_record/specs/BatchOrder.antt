-- What a trace tells of a record: whose batches come in which order, and the runs of senders in each. It decides the record.
use Rattle.std.specs.Prelude.{◌≡◌, ℕ, List, map}
use Rattle.caf_actor.specs.Record.{Machine, Kept, IsLegal}
use Rattle.caf_actor.specs.Run.{Turn}
use Rattle.caf_actor.specs.Merge.{IsMerge}
use Rattle.caf_record.specs.Trace.{SenderRun, runs_of}

abbrev pub batch_order : List Turn → List (ℕ × List SenderRun)
batch_order ts = map (λ t. (t.place, runs_of t.batch.taken)) ts

-- legal records that begin alike and were taken in one order are equal
abbrev pub OrderDecides : {S : Type 0} → Machine S → Type 0
OrderDecides {S} m = (ticks : ℕ) (k l : Kept S) (ts us : List Turn) → IsLegal m ticks k → IsLegal m ticks l → IsMerge k ts → IsMerge l us
    → k.places ≡ l.places → k.start ≡ l.start → batch_order ts ≡ batch_order us → k ≡ l
