use Rattle.std.proofs.Common.{map, drop}
use Rattle.caf_words.specs.Datum.{data_of}
use Rattle.caf_events.specs.Event.{events, each_events}
use Rattle.caf_events.specs.Tells.{Tells}
use Rattle.caf_events.proofs.lists.save_each.Given as goal

abbrev pub invariant-loop-item : goal.invariant-loop-item
invariant-loop-item g l =
    (new : g.row.S.Denot) → Tells g.S.Save.told l.saver new (each_events (events g.T.Inspect.shape) (data_of (map g.T.Inspect.means (drop l.item-index l.items))))
    → Tells g.S.Save.told l.fn.saver new (each_events (events g.T.Inspect.shape) (data_of (map g.T.Inspect.means l.items)))
