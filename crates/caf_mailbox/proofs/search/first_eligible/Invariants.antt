use Rattle.std.proofs.Common.{◌≡◌, map}
use Rattle.std.specs.VecDeque.{deque_len}
use Rattle.caf_message.specs.Envelope.{plain_envelope}
use Rattle.caf_message.proofs.ListLemmas.{NoneBefore}
use Rattle.caf_mailbox.proofs.search.first_eligible.Given as goal

abbrev pub invariant-loop-i : goal.invariant-loop-i
invariant-loop-i g l = record {
  len : deque_len l.list ≡ deque_len l.initial.list;
  kept : map plain_envelope l.list.items ≡ map plain_envelope l.initial.list.items;
  none : NoneBefore (g.E.Eligible.test l.test) (map plain_envelope l.initial.list.items) l.i;
}
