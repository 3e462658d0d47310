use Rattle.std.proofs.Common.{◌≡◌, ◌+◌}
use Rattle.caf_sched.specs.Seat.{Stays}
use Rattle.caf_sched.specs.Worker.{hands_of, parts_of}
use Rattle.caf_sched.proofs.run.join_all.Given as goal

abbrev pub invariant-loop-worker : goal.invariant-loop-worker
invariant-loop-worker g l = Stays l.fn.seat l.seat × (l.seat.parts ≡ l.fn.seat.parts + parts_of l.yielded) × (l.hands.items ≡ hands_of l.yielded)
