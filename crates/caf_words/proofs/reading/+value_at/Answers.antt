use Rattle.std.proofs.Common.{map, ◌+◌, ◌-◌, drop, List, ℕ}
use Rattle.std.proofs.lemmas.List.{map_push}
use Rattle.std.proofs.lemmas.Result.{err_from_is_err_and}
use Rattle.caf_types.specs.Shape.{tree, parts}
use Rattle.caf_words.specs.Value.{datum}
use Rattle.caf_words.specs.Reading.{Got, many, reading, each_reading}
use Rattle.caf_words.proofs.LoopLemmas.{goes_on, ends, many_more}
use Rattle.caf_words.proofs.CountLemmas.{fields_more}
use Rattle.caf_words.proofs.reading.+value_at.Goals as goal

pub items_at-returns-in_err-item : goal.items_at-returns-in_err-item
items_at-returns-in_err-item t c =
    let p = err_from_is_err_and c.from_residual.result c.from_residual.ensures.1 in
    let read : List ℕ → Got _ = reading (tree c.args.shape.now) in
    rw (p.1, p.2) (ends c.in_err-item.field-0.0 (map datum c.loop.items.items) (read c.loop.rest.now) (many read (c.args.count - (c.loop.counter + 1))) _ c.in_err-item.ensures
    (rw (many_more read c.args.count c.loop.counter c.loop.rest.now c.loop-test.true) at c.loop.invariant))

pub items_at-loop-preserved : goal.items_at-loop-preserved
items_at-loop-preserved t c =
    let read : List ℕ → Got _ = reading (tree c.args.shape.now) in
    rw (c.in_ok-push.ensures.items, map_push datum c.loop.items.items c.in_ok-item.item)
    (goes_on (map datum c.loop.items.items) (read c.loop.rest.now) (many read (c.args.count - (c.loop.counter + 1))) _ _ _ c.in_ok-item.ensures
    (rw (many_more read c.args.count c.loop.counter c.loop.rest.now c.loop-test.true) at c.loop.invariant))

pub fields_at-loop-field-preserved : goal.fields_at-loop-field-preserved
fields_at-loop-field-preserved t c =
    let f = c.field-item.result in
    rw (c.in_ok-push.ensures.items, map_push datum c.loop-field.values.items c.in_ok-value.value)
    (goes_on (map datum c.loop-field.values.items) (reading (tree f.shape) c.loop-field.rest.now) (each_reading (parts (drop (c.loop-field.field-index + 1) c.args.fields.now))) _ _ _ c.in_ok-value.ensures
    (rw (fields_more c.args.fields.now c.loop-field.field-index f c.loop-field.rest.now c.loop-field-test.true c.field-item.is) at c.loop-field.invariant))
