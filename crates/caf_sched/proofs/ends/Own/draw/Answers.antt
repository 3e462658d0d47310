use Rattle.caf_sched.proofs.TicketLemmas.{takes}
use Rattle.caf_sched.proofs.ends.Own.draw.Goals as goal

pub pop_as-found-requires-clause-fifo : goal.pop_as-found-requires-clause-fifo
pop_as-found-requires-clause-fifo c = λ _. takes _ _
