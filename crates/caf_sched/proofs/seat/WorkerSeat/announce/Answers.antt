use Rattle.std.proofs.Common.{◌<◌, arith}
use Rattle.caf_sched.proofs.StepLemmas.{tickets_of_note, noted_of_note}
use Rattle.caf_sched.proofs.seat.WorkerSeat.announce.Goals as goal

pub returns-clause-tickets : goal.returns-clause-tickets
returns-clause-tickets g c =
    let first = c.announce-first.ensures.first in
    rw (← c.self.view_is) (tickets_of_note c.args.place first.0 c.announce-first.result _ _ (λ i. (first.1 i).steps) first.3)

pub returns-clause-noted : goal.returns-clause-noted
returns-clause-noted g c =
    let first = c.announce-first.ensures.first in
    let is_body : c.args.place < c.args.turns.now.slots = omega arith in
    λ few. rw (← c.self.view_is) (noted_of_note c.args.turns.now.slots c.args.place first.0 _ _ is_body (λ i. (first.1 i).steps))
