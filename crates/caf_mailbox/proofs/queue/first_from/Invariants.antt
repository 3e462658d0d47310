use Rattle.std.proofs.Common.{◌≡◌}
use Rattle.std.specs.VecDeque.{deque_len}
use Rattle.caf_mailbox.specs.Arrived.{all_arrived, at_arrived}
use Rattle.caf_mailbox.specs.Passed.{NonePass}
use Rattle.caf_mailbox.proofs.queue.first_from.Given as goal

abbrev pub invariant-loop-i : goal.invariant-loop-i
invariant-loop-i g l = record {
  len : deque_len l.queue ≡ deque_len l.initial.queue;
  kept : all_arrived l.queue.items ≡ all_arrived l.initial.queue.items;
  none : NonePass (at_arrived (g.E.Eligible.test l.test)) (all_arrived l.initial.queue.items) l.i;
}
