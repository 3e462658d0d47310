use Rattle.caf_sched.proofs.TicketLemmas.{pushes}
use Rattle.caf_sched.proofs.ends.Own.put.Goals as goal

pub push_as-requires-clause-pushes : goal.push_as-requires-clause-pushes
push_as-requires-clause-pushes c = rw (c.self.invariant.1) (pushes _ _)
