use Rattle.caf_sched.specs.Hand.{HasDrawn}
use Rattle.caf_sched.specs.Seat.{IsSameSeat}
use Rattle.caf_sched.specs.Worker.{KeepsTickets}
use Rattle.caf_sched.proofs.worker.Worker.run.Given as goal

abbrev pub invariant-loop : goal.invariant-loop
invariant-loop g l = IsSameSeat l.fn.self.seat l.self.seat × KeepsTickets l.fn.self l.self × HasDrawn l.self.hand
