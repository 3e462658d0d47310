use Rattle.std.proofs.Common.{◌≡◌, ◌+◌, ◌-◌, length, map, ℕ, [], slice_index_or}
use Rattle.caf_message.specs.Envelope.{plain_envelope}
use Rattle.caf_driver.specs.Arrivals.{from_sender}
use Rattle.caf_driver.proofs.arrivals.Arrivals.make_queue.Given as goal

abbrev pub invariant-loop-alloc : goal.invariant-loop-alloc
invariant-loop-alloc l = ((a : ℕ) → slice_index_or (map (λ q. map plain_envelope q.items) l.self-inside.queues.items) a [] ≡ from_sender l.fn.self a)
    × (l.self-inside.senders ≡ l.fn.self.senders)

abbrev pub decreases-loop-alloc : goal.decreases-loop-alloc
decreases-loop-alloc l = l.sender + 1 - length l.self-inside.queues.items
