use Rattle.caf_sched.proofs.TicketLemmas.{begins}
use Rattle.caf_sched.proofs.ends.Own.new.Goals as goal

pub fifo_as-requires : goal.fifo_as-requires
fifo_as-requires c = begins
