use Rattle.std.proofs.Common.{◌≡◌, count_by, take}
use Rattle.caf_message.specs.Envelope.{plain_envelope}
use Rattle.caf_mailbox.specs.Caches.{is_urgent}
use Rattle.caf_mailbox.proofs.late.count_urgent.Given as goal

abbrev pub invariant-loop-envelope : goal.invariant-loop-envelope
invariant-loop-envelope l = l.count ≡ count_by (λ e. is_urgent (plain_envelope e)) (take l.envelope-index l.envelopes)
