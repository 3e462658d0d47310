use Rattle.std.proofs.Common.{sym, subst}
use Rattle.caf_types.specs.TypeTable.{seen}
use Rattle.caf_sched.specs.Work.{AreServed}
use Rattle.caf_sched.proofs.worker.Worker.run.Goals as goal

pub follow-requires-clause-entries : goal.follow-requires-clause-entries
follow-requires-clause-entries g c κs within = subst (λ o. AreServed g.W.Marked.has_mark g.W.Work.has_entries (seen c.args.table.now) o) (sym c.loop.invariant.0.1) c.requires.entries
