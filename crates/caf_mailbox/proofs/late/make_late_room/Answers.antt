use Rattle.std.proofs.Common.{◌+◌, ◌-◌, ◌≤◌, arith, length}
use Rattle.std.specs.VecDeque.{deque_len, deque_capacity}
use Rattle.caf_message.specs.Envelope.{plain_envelope}
use Rattle.caf_mailbox.specs.Caches.{is_urgent}
use Rattle.caf_mailbox.proofs.LateLemmas.{count_both}
use Rattle.caf_mailbox.proofs.late.make_late_room.Goals as goal

pub returns-clause-normal_room : goal.returns-clause-normal_room
returns-clause-normal_room c =
    let both = count_both (λ e. is_urgent (plain_envelope e)) c.args.batch.now in
    let same = c.count_urgent-urgent_count.ensures in
    let room : deque_len c.reserve-2.new.self + (length c.args.batch.now - c.count_urgent-urgent_count.result) ≤ deque_capacity c.reserve-2.new.self = c.in_ok-reserve-2.ensures.ok in
    omega arith
