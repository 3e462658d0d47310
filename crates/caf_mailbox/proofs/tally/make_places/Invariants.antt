use Rattle.std.proofs.Common.{◌≡◌, ◌+◌, map, take}
use Rattle.caf_message.specs.Envelope.{plain_envelope}
use Rattle.caf_mailbox.specs.Caches.{is_urgent, is_normal}
use Rattle.caf_mailbox.proofs.FilingLemmas.{IsSurvey}
use Rattle.caf_mailbox.proofs.tally.make_places.Given as goal

abbrev pub invariant-loop-envelope : goal.invariant-loop-envelope
invariant-loop-envelope l = record {
  urgent_here : l.urgent.here ≡ l.initial.urgent.here;
  normal_here : l.normal.here ≡ l.initial.normal.here;
  urgent : IsSurvey is_urgent l.next (map plain_envelope (take l.envelope-index l.batch)) l.urgent_tally l.urgent.room;
  normal : IsSurvey is_normal l.next (map plain_envelope (take l.envelope-index l.batch)) l.normal_tally l.normal.room;
  number : l.number ≡ l.next + l.envelope-index;
}
