use Rattle.std.proofs.Common.{◌≡◌, ◌+◌, ◌-◌, ◌∷◌, ◌++◌, [], map, ap, ◌∙◌}
use Rattle.std.proofs.lemmas.List.{map_push}
use Rattle.caf_events.specs.Taking.{taking, many}
use Rattle.caf_events.proofs.LoopLemmas.{goes_on, many_more, some_one, is_done}
use Rattle.caf_events.proofs.lists.load_each.Goals as goal

pub load-requires : goal.load-requires
load-requires g c =
    let one = taking g.T.Inspect.shape in
    some_one (map g.T.Inspect.means c.loop.items) one (many one (c.args.count - (c.loop.counter + 1))) (g.L.Load.left c.loop.loader) (many one c.args.count (g.L.Load.left c.args.loader.now))
    (rw (many_more one c.args.count c.loop.counter (g.L.Load.left c.loop.loader) c.loop-test.true) at c.loop.invariant) c.requires

pub loop-preserved : goal.loop-preserved
loop-preserved g c =
    let one = taking g.T.Inspect.shape in
    let e : map g.T.Inspect.means c.push.new.self ≡ map g.T.Inspect.means c.loop.items ++ g.T.Inspect.means c.in_ok-item.item ∷ [] =
    ap (map g.T.Inspect.means) c.in_ok-push.ensures.added ∙ map_push g.T.Inspect.means c.loop.items c.in_ok-item.item in
    rw e
    (goes_on (map g.T.Inspect.means c.loop.items) one (many one (c.args.count - (c.loop.counter + 1))) _ (g.L.Load.left c.loop.loader) _ _ c.in_ok-item.ensures
    (rw (many_more one c.args.count c.loop.counter (g.L.Load.left c.loop.loader) c.loop-test.true) at c.loop.invariant))

pub returns : goal.returns
returns g c = is_done (map g.T.Inspect.means c.loop.items) (taking g.T.Inspect.shape) c.args.count c.loop.counter (g.L.Load.left c.loop.loader) _ c.loop-test.false c.loop.invariant
