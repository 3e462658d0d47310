use Rattle.std.proofs.Common.{map, length, ◌+◌, ◌-◌, ◌∙◌, ap, drop, List, ℕ, Ok}
use Rattle.std.proofs.lemmas.List.{map_push}
use Rattle.std.proofs.lemmas.Result.{err_from_is_err_and}
use Rattle.caf_types.specs.Shape.{tree, parts}
use Rattle.caf_words.specs.Value.{datum}
use Rattle.caf_words.specs.Reading.{Got}
use Rattle.caf_text.specs.TextForm.{comma}
use Rattle.caf_text.specs.TextReading.{reading, values, field_at, fields_at}
use Rattle.caf_text.proofs.LoopLemmas.{round_more, round_on, round_last, round_stops, round_stops_behind, goes_on, fields_more}
use Rattle.caf_text.proofs.reading.+value_at.Goals as goal

pub fields_at-loop-field-preserved : goal.fields_at-loop-field-preserved
fields_at-loop-field-preserved t c =
    let f = c.field-item.result in
    rw (c.in_ok-push.ensures.items, map_push datum c.loop-field.values.items c.in_ok-value.value, c.as_slice-before-in-loop-field.ensures)
    (goes_on (map datum c.loop-field.values.items) (field_at c.loop-field.before.now f.name (reading (tree f.shape)) c.loop-field.rest.now) (fields_at (parts (drop (c.loop-field.field-index + 1) c.args.fields.now)) comma) _ _ _ c.in_ok-value.ensures
    (rw (fields_more c.args.fields.now c.loop-field.field-index f c.loop-field.before.now c.loop-field.rest.now c.loop-field-test.true c.field-item.is) at c.loop-field.invariant))

pub values_at-returns-in_err-item : goal.values_at-returns-in_err-item
values_at-returns-in_err-item t c =
    let p = err_from_is_err_and c.from_residual.result c.from_residual.ensures.1 in
    let one : List ℕ → Got _ = reading (tree c.args.shape.now) in
    rw (p.1, p.2) (round_stops c.in_err-item.field-0.0 (map datum c.loop.items.items) one (values one (length c.args.bytes.now - (c.loop.counter + 1))) c.loop.rest.now _ c.in_err-item.ensures
    (rw (round_more one (length c.args.bytes.now) c.loop.counter c.loop.rest.now c.loop-test.true) at c.loop.invariant))

pub values_at-returns-in_err-is_last : goal.values_at-returns-in_err-is_last
values_at-returns-in_err-is_last t c =
    let p = err_from_is_err_and c.from_residual-in_err-is_last.result c.from_residual-in_err-is_last.ensures.1 in
    let one : List ℕ → Got _ = reading (tree c.args.shape.now) in
    rw (p.1, p.2) (round_stops_behind c.in_err-is_last.field-0.0 (map datum c.loop.items.items) one (values one (length c.args.bytes.now - (c.loop.counter + 1))) (datum c.in_ok-item.item) c.loop.rest.now c.in_ok-item.after.now _ c.in_ok-item.ensures c.in_err-is_last.ensures
    (rw (round_more one (length c.args.bytes.now) c.loop.counter c.loop.rest.now c.loop-test.true) at c.loop.invariant))

pub values_at-returns-then-is_last : goal.values_at-returns-then-is_last
values_at-returns-then-is_last t c =
    let one : List ℕ → Got _ = reading (tree c.args.shape.now) in
    rw (c.in_ok-push.ensures.items, map_push datum c.loop.items.items c.in_ok-item.item)
    (round_last (map datum c.loop.items.items) one (values one (length c.args.bytes.now - (c.loop.counter + 1))) (datum c.in_ok-item.item) c.loop.rest.now c.in_ok-item.after.now c.in_ok-is_last.after.now _ c.in_ok-item.ensures
    (c.in_ok-is_last.ensures ∙ ap (λ b. Ok (b, c.in_ok-is_last.after.now)) c.if-is_last.true)
    (rw (round_more one (length c.args.bytes.now) c.loop.counter c.loop.rest.now c.loop-test.true) at c.loop.invariant))

pub values_at-loop-preserved : goal.values_at-loop-preserved
values_at-loop-preserved t c =
    let one : List ℕ → Got _ = reading (tree c.args.shape.now) in
    rw (c.in_ok-push.ensures.items, map_push datum c.loop.items.items c.in_ok-item.item)
    (round_on (map datum c.loop.items.items) one (values one (length c.args.bytes.now - (c.loop.counter + 1))) (datum c.in_ok-item.item) c.loop.rest.now c.in_ok-item.after.now c.in_ok-is_last.after.now _ c.in_ok-item.ensures
    (c.in_ok-is_last.ensures ∙ ap (λ b. Ok (b, c.in_ok-is_last.after.now)) c.if-is_last.false)
    (rw (round_more one (length c.args.bytes.now) c.loop.counter c.loop.rest.now c.loop-test.true) at c.loop.invariant))
