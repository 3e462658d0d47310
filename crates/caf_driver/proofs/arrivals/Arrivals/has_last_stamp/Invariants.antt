use Rattle.std.proofs.Common.{◌≡◌, false, map, take}
use Rattle.std.specs.List.{list_any}
use Rattle.caf_message.specs.Envelope.{plain_envelope}
use Rattle.caf_driver.specs.Arrivals.{has_last}
use Rattle.caf_driver.proofs.arrivals.Arrivals.has_last_stamp.Given as goal

abbrev pub invariant-loop-queue : goal.invariant-loop-queue
invariant-loop-queue l = list_any (λ q. has_last (map plain_envelope q.items)) (take l.queue-index l.queue-items) ≡ false
