use Rattle.caf_sched.proofs.TicketLemmas.{admits}
use Rattle.caf_sched.proofs.ends.Own.other.Goals as goal

pub pass-pass-requires : goal.pass-pass-requires
pass-pass-requires c = admits
