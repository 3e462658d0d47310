use Rattle.caf_sched.proofs.TicketLemmas.{takes}
use Rattle.caf_sched.proofs.ends.steal.Goals as goal

pub steal_as-requires-clause-takes : goal.steal_as-requires-clause-takes
steal_as-requires-clause-takes g c = takes _ _
