use Rattle.std.proofs.Common.{◌≡◌, ◌++◌, ◌<◌, take}
use Rattle.caf_turns.specs.Limits.{most_announcements}
use Rattle.caf_turns.specs.Steps.{announced}
use Rattle.caf_sched.specs.Seat.{IsSameSeat}
use Rattle.caf_sched.specs.Tickets.{places_in, noted}
use Rattle.caf_sched.specs.Worker.{KeepsTickets, SameDraws}
use Rattle.caf_sched.proofs.worker.Worker.announce_all.Given as goal

abbrev pub invariant-loop-place : goal.invariant-loop-place
invariant-loop-place g l = IsSameSeat l.fn.self.seat l.self.seat × KeepsTickets l.fn.self l.self × SameDraws l.fn.self.hand l.self.hand
    × (announced l.self.seat.steps < most_announcements → noted l.self.seat.steps ≡ noted l.fn.self.seat.steps ++ places_in l.turns.slots (take l.place-index l.places))
