use Rattle.std.proofs.Common.{◌≡◌, ◌++◌, ◌<◌, take}
use Rattle.caf_turns.specs.Limits.{most_announcements}
use Rattle.caf_turns.specs.Steps.{announced}
use Rattle.caf_sched.specs.Seat.{IsSameSeat}
use Rattle.caf_sched.specs.Tickets.{places_in, noted}
use Rattle.caf_sched.proofs.first.put_all.Given as goal

abbrev pub invariant-loop-place : goal.invariant-loop-place
invariant-loop-place g l = IsSameSeat l.fn.seat l.seat × (l.hand.puts ≡ l.fn.hand.puts ++ places_in l.turns.slots (take l.place-index l.places))
    × (announced l.seat.steps < most_announcements → noted l.seat.steps ≡ noted l.fn.seat.steps ++ places_in l.turns.slots (take l.place-index l.places))
