use Rattle.std.proofs.Common.{◌≡◌, ◌<◌, ◌+◌, ◌^◌, [], ◌++◌, length, map, filter}
use Rattle.caf_message.specs.Envelope.{plain_envelope}
use Rattle.caf_mailbox.specs.Caches.{is_urgent, is_normal}
use Rattle.caf_mailbox.specs.Line.{in_line, HasRoom}
use Rattle.caf_mailbox.specs.Places.{places_for}
use Rattle.caf_mailbox.specs.Kept.{IsKept}
use Rattle.caf_mailbox.proofs.filing.file.Given as goal

abbrev pub invariant-loop-envelope : goal.invariant-loop-envelope
invariant-loop-envelope l = record {
  urgent : in_line l.urgent ++ filter is_urgent (map plain_envelope l.envelope-iterator.rest.items) ≡ in_line l.fn.urgent ++ filter is_urgent (map plain_envelope l.fn.batch.items);
  normal : in_line l.normal ++ filter is_normal (map plain_envelope l.envelope-iterator.rest.items) ≡ in_line l.fn.normal ++ filter is_normal (map plain_envelope l.fn.batch.items);
  urgent_room : HasRoom (filter is_urgent (map plain_envelope l.envelope-iterator.rest.items)) l.urgent;
  normal_room : HasRoom (filter is_normal (map plain_envelope l.envelope-iterator.rest.items)) l.normal;
  kept : IsKept l.number l.urgent l.normal;
  urgent_places : l.urgent.responses.room ≡ places_for is_urgent l.number (map plain_envelope l.envelope-iterator.rest.items);
  normal_places : l.normal.responses.room ≡ places_for is_normal l.number (map plain_envelope l.envelope-iterator.rest.items);
  urgent_late : l.urgent.late.items ≡ [];
  normal_late : l.normal.late.items ≡ [];
  numbers : l.number + length l.envelope-iterator.rest.items < 2 ^ 64;
}
