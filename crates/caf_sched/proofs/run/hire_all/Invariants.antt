use Rattle.std.proofs.Common.{◌≡◌, ◌-◌, length, All}
use Rattle.caf_turns.specs.Limits.{all_parts, most_splits}
use Rattle.caf_sched.specs.Seat.{Stays, new_seat}
use Rattle.caf_sched.specs.Worker.{hands_of}
use Rattle.caf_sched.proofs.run.hire_all.Given as goal

abbrev pub invariant-loop-hand : goal.invariant-loop-hand
invariant-loop-hand g l = Stays l.fn.seat l.seat × (l.seat.parts ≡ all_parts - length l.yielded) × (l.seat.splits ≡ most_splits - length l.yielded)
    × (length l.workers.items ≡ length l.yielded) × All (λ w. w.seat ≡ new_seat l.turns l.fn.seat.opening) l.workers.items × (l.yielded ≡ hands_of l.workers.items)
