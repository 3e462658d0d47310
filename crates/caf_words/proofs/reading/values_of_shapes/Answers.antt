use Rattle.std.proofs.Common.{map, ◌+◌, drop}
use Rattle.std.proofs.lemmas.List.{map_push}
use Rattle.caf_types.specs.Shape.{tree}
use Rattle.caf_words.specs.Reading.{reading}
use Rattle.caf_words.specs.Several.{several}
use Rattle.caf_words.specs.Value.{datum}
use Rattle.caf_words.proofs.LoopLemmas.{goes_on}
use Rattle.caf_words.proofs.CountLemmas.{shapes_more}
use Rattle.caf_words.proofs.reading.values_of_shapes.Goals as goal

pub loop-shape-preserved : goal.loop-shape-preserved
loop-shape-preserved c =
    let shape = c.shape-item.result in
    rw (c.in_ok-push.ensures.items, map_push datum c.loop-shape.values.items c.in_ok-value.value)
    (goes_on (map datum c.loop-shape.values.items) (reading (tree shape) c.loop-shape.rest.now) (several (map tree (drop (c.loop-shape.shape-index + 1) c.args.shapes.now))) _ _ _ c.in_ok-value.ensures
    (rw (shapes_more c.args.shapes.now c.loop-shape.shape-index shape c.loop-shape.rest.now c.loop-shape-test.true c.shape-item.is) at c.loop-shape.invariant))
