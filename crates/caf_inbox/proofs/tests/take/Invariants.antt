use Rattle.std.proofs.Common.{◌≡◌}
use Rattle.caf_inbox.proofs.tests.take.Given as goal

abbrev pub invariant-loop : goal.invariant-loop
invariant-loop g l = l.reader.inbox ≡ l.fn.reader.inbox
