use Rattle.std.proofs.Common.{◌≡◌, take, map}
use Rattle.caf_message.specs.Envelope.{plain_envelope}
use Rattle.caf_actor.proofs.journal.copies_of.Given as goal

abbrev pub invariant-loop-i : goal.invariant-loop-i
invariant-loop-i l = record {
  taken : l.taken.items ≡ take l.i (map plain_envelope l.fn.batch);
  kept : map plain_envelope l.batch ≡ map plain_envelope l.fn.batch;
}
