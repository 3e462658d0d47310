use Rattle.std.proofs.Common.{◌≡◌}
use Rattle.caf_inbox.proofs.tests.send.Given as goal

abbrev pub invariant-loop-seq : goal.invariant-loop-seq
invariant-loop-seq g l = (l.lane.inbox ≡ l.fn.lane.inbox) × (l.lane.sender ≡ l.fn.lane.sender)
