use Rattle.std.proofs.Common.{◌≡◌, length}
use Rattle.caf_mailbox.proofs.responses.Responses.give_up_places.Given as goal

abbrev pub invariant-loop : goal.invariant-loop
invariant-loop l = l.self.here ≡ l.initial.self.here

abbrev pub decreases-loop : goal.decreases-loop
decreases-loop l = length l.self.room
