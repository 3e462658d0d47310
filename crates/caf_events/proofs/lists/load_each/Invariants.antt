use Rattle.std.proofs.Common.{◌≡◌, ◌-◌, map}
use Rattle.caf_events.specs.Taking.{taking, many}
use Rattle.caf_events.proofs.LoopLemmas.{with_front}
use Rattle.caf_events.proofs.lists.load_each.Given as goal

abbrev pub invariant-loop : goal.invariant-loop
invariant-loop g l =
    with_front (map g.T.Inspect.means l.items) (many (taking g.T.Inspect.shape) (l.count - l.counter) (g.L.Load.left l.loader)) ≡ many (taking g.T.Inspect.shape) l.count (g.L.Load.left l.fn.loader)
