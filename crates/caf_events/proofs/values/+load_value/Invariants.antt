use Rattle.std.proofs.Common.{◌≡◌, ◌-◌, map, drop}
use Rattle.caf_types.specs.Shape.{tree, parts}
use Rattle.caf_words.specs.Value.{datum}
use Rattle.caf_events.specs.Taking.{taking, taking_parts, many}
use Rattle.caf_events.proofs.LoopLemmas.{with_front}
use Rattle.caf_events.proofs.values.+load_value.Given as goal

abbrev pub invariant-load_items-loop : goal.invariant-load_items-loop
invariant-load_items-loop g l =
    with_front (map datum l.values.items) (many (taking (tree l.shape)) (l.count - l.counter) (g.L.Load.left l.loader)) ≡ many (taking (tree l.shape)) l.count (g.L.Load.left l.fn.loader)

abbrev pub invariant-load_fields-loop-field : goal.invariant-load_fields-loop-field
invariant-load_fields-loop-field g l =
    with_front (map datum l.values.items) (taking_parts (parts (drop l.field-index l.fields)) (g.L.Load.left l.loader)) ≡ taking_parts (parts l.fields) (g.L.Load.left l.fn.loader)
