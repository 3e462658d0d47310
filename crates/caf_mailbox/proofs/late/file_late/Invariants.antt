use Rattle.std.proofs.Common.{◌≡◌, ◌≤◌, ◌+◌, count_by}
use Rattle.std.specs.VecDeque.{deque_len, deque_capacity}
use Rattle.caf_message.specs.Envelope.{plain_envelope}
use Rattle.caf_mailbox.specs.Caches.{is_urgent, is_normal}
use Rattle.caf_mailbox.proofs.LateLemmas.{with_those}
use Rattle.caf_mailbox.proofs.late.file_late.Given as goal

abbrev pub invariant-loop-envelope : goal.invariant-loop-envelope
invariant-loop-envelope l = record {
  urgent : with_those plain_envelope is_urgent l.urgent.items l.envelope-iterator.rest.items ≡ with_those plain_envelope is_urgent l.fn.urgent.items l.fn.batch.items;
  normal : with_those plain_envelope is_normal l.normal.items l.envelope-iterator.rest.items ≡ with_those plain_envelope is_normal l.fn.normal.items l.fn.batch.items;
  urgent_room : deque_len l.urgent + count_by (λ e. is_urgent (plain_envelope e)) l.envelope-iterator.rest.items ≤ deque_capacity l.urgent;
  normal_room : deque_len l.normal + count_by (λ e. is_normal (plain_envelope e)) l.envelope-iterator.rest.items ≤ deque_capacity l.normal;
}
