use Rattle.caf_events.specs.Event.{events}
use Rattle.caf_events.proofs.TellingLemmas.{tells_append, tells_none}
use Rattle.caf_events.proofs.LoopLemmas.{each_more, each_done}
use Rattle.caf_events.proofs.lists.save_each.Goals as goal

pub loop-item-init : goal.loop-item-init
loop-item-init g c = λ new h. h

pub loop-item-preserved : goal.loop-item-preserved
loop-item-preserved g c = λ new h.
    c.loop-item.invariant new (rw (each_more g.T.Inspect.means (events g.T.Inspect.shape) c.args.items.now c.loop-item.item-index c.item-item.result c.loop-item-test.true c.item-item.is) (tells_append c.in_ok-save.ensures h))

pub returns : goal.returns
returns g c =
    c.loop-item.invariant _ (rw (each_done g.T.Inspect.means (events g.T.Inspect.shape) c.args.items.now c.loop-item.item-index c.loop-item-test.false) tells_none)
