use Rattle.std.proofs.Common.{refl}
use Rattle.caf_types.proofs.TableLemmas.{listed-more, id-more}
use Rattle.caf_types.proofs.table.listed_from.Goals as goal

pub loop-entry-preserved : goal.loop-entry-preserved
loop-entry-preserved c = (
  tt,
  tt,
  id-more c.loop-entry.id c.args.first c.loop-entry.yielded c.in-Some.entry c.loop-entry.invariant.2,
  rw c.in_ok-push.ensures.items (listed-more _ c.args.first c.loop-entry.yielded _ c.in-Some.entry c.loop-entry.invariant.3 c.loop-entry.invariant.2 refl),
)
