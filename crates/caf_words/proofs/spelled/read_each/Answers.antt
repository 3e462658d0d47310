use Rattle.std.proofs.Common.{map, ◌+◌, ◌-◌, List, ℕ}
use Rattle.std.proofs.lemmas.List.{map_push}
use Rattle.caf_words.specs.Reading.{Got, many, reading}
use Rattle.caf_words.proofs.LoopLemmas.{goes_on, many_more}
use Rattle.caf_words.proofs.spelled.read_each.Goals as goal

pub loop-preserved : goal.loop-preserved
loop-preserved g c =
    let read : List ℕ → Got _ = reading g.T.Spelled.shape in
    rw (c.in_ok-push.ensures.added, map_push g.T.Spelled.means c.loop.items c.in_ok-item.item)
    (goes_on (map g.T.Spelled.means c.loop.items) (read c.loop.rest.now) (many read (c.args.count - (c.loop.counter + 1))) _ _ _ c.in_ok-item.ensures
    (rw (many_more read c.args.count c.loop.counter c.loop.rest.now c.loop-test.true) at c.loop.invariant))
