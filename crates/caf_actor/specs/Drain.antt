-- What an actor does with a batch.
use Rattle.std.specs.Prelude.{ℕ, zero, suc, ◌+◌, ◌-◌, max, List, [], ◌∷◌, Option, Some, None}
use Rattle.caf_message.specs.declared.envelope.Taken.{Taken}
use Rattle.caf_mailbox.specs.Caches.{filed}
use Rattle.caf_actor.specs.declared.snapshot.Snapshot.{Snapshot}
use Rattle.caf_actor.specs.Rules.{Rules}
use Rattle.caf_actor.specs.Snapshot.{Handled, so_far, with_snapshot, cached}
use Rattle.caf_actor.specs.Eligibility.{next_envelope}
use Rattle.caf_actor.specs.Handling.{handle_one}

-- ---- the drain

-- the next envelope, if there is one, and on from there
abbrev pub turn : {S : Type 0} → Rules S → (Handled S → Handled S) → Handled S → Option (Taken × Snapshot S) → Handled S
turn rules go t None = t
turn rules go t (Some p) = go (handle_one rules (with_snapshot t p.1) p.0)

-- at most so many envelopes, one after the other, until none is eligible
abbrev pub drain_for : {S : Type 0} → Rules S → ℕ → Handled S → Handled S
drain_for rules zero t = t
drain_for rules (suc n) t = turn rules (drain_for rules n) t (next_envelope rules t.snapshot)

-- each turn takes one envelope out of the lists and puts none in, so as many turns as are cached do
abbrev pub drain : {S : Type 0} → Rules S → Handled S → Handled S
drain rules t = drain_for rules (cached t.snapshot) t

-- ---- a batch

abbrev pub greatest_stamp : ℕ → List Taken → ℕ
greatest_stamp stamp [] = stamp
greatest_stamp stamp (e ∷ es) = greatest_stamp (max stamp e.stamp) es

-- one more than the greatest of the actor's stamp and the envelopes' stamps
abbrev pub stamp_due : ℕ → List Taken → ℕ
stamp_due stamp batch = greatest_stamp stamp batch + 1

-- the batch has its stamp, and is in the lists
abbrev pub with_batch : {S : Type 0} → Snapshot S → List Taken → Snapshot S
with_batch s batch = record s { stamp = stamp_due s.stamp batch; caches = filed s.caches batch }

abbrev pub batch_of : {S : Type 0} → Rules S → Snapshot S → List Taken → Handled S
batch_of rules s batch = drain rules (so_far (with_batch s batch) [])

-- how many envelopes left the lists in a batch
abbrev pub left_in_batch : {S : Type 0} → Rules S → Snapshot S → List Taken → ℕ
left_in_batch rules s batch = cached (with_batch s batch) - cached (batch_of rules s batch).snapshot
