use Rattle.std.proofs.Common.{◌≡◌, [], map}
use Rattle.caf_message.specs.Envelope.{plain_envelope}
use Rattle.caf_driver.specs.Mail.{length_at}
use Rattle.caf_driver.specs.Delivery.{HasTakenOut}
use Rattle.caf_driver.proofs.collecting.collect.Given as goal

abbrev pub invariant-loop-sender : goal.invariant-loop-sender
invariant-loop-sender g l = HasTakenOut l.fn.mail l.fn.place (map plain_envelope l.batch) l.mail × (l.batch ≡ [] → l.mail ≡ l.fn.mail)

abbrev pub decreases-loop-sender : goal.decreases-loop-sender
decreases-loop-sender g l = length_at l.mail l.fn.place
