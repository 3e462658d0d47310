use Rattle.std.proofs.Common.{◌≡◌, ◌+◌, ◌-◌, ◌∷◌, ◌++◌, [], map, drop, ap, ◌∙◌, rules}
use Rattle.std.proofs.lemmas.List.{map_push}
use Rattle.caf_types.specs.Shape.{tree, parts}
use Rattle.caf_words.specs.Value.{datum}
use Rattle.caf_events.specs.Taking.{taking, taking_parts, many}
use Rattle.caf_events.proofs.LoopLemmas.{goes_on, many_more, some_one}
use Rattle.caf_events.proofs.ValueLemmas.{taking_more, field_goes_on}
use Rattle.caf_events.proofs.values.+load_value.Goals as goal

pub load_items-load_value-requires : goal.load_items-load_value-requires
load_items-load_value-requires g t c κs within =
    let one = taking (tree c.args.shape.now) in (
      search rules,
      (
        within,
        some_one (map datum c.loop.values.items) one (many one (c.args.count - (c.loop.counter + 1))) (g.L.Load.left c.loop.loader) (many one c.args.count (g.L.Load.left c.args.loader.now))
            (rw (many_more one c.args.count c.loop.counter (g.L.Load.left c.loop.loader) c.loop-test.true) at c.loop.invariant) c.requires,
      ),
    )

pub load_items-loop-preserved : goal.load_items-loop-preserved
load_items-loop-preserved g t c =
    let one = taking (tree c.args.shape.now) in
    rw (c.in_ok-add_value.ensures, map_push datum c.loop.values.items c.in_ok-value.value)
    (goes_on (map datum c.loop.values.items) one (many one (c.args.count - (c.loop.counter + 1))) (datum c.in_ok-value.value) (g.L.Load.left c.loop.loader) (g.L.Load.left c.load_value.new.loader) _ c.in_ok-value.ensures
    (rw (many_more one c.args.count c.loop.counter (g.L.Load.left c.loop.loader) c.loop-test.true) at c.loop.invariant))

pub load_fields-loop-field-preserved : goal.load_fields-loop-field-preserved
load_fields-loop-field-preserved g t c =
    let field = c.field-item.result in
    let es = g.L.Load.left c.loop-field.loader in
    let others = taking_parts (parts (drop (c.loop-field.field-index + 1) c.args.fields.now)) in
    rw (c.in_ok-add_value.ensures, map_push datum c.loop-field.values.items c.in_ok-value.value)
    (field_goes_on (map datum c.loop-field.values.items) (taking (tree field.shape)) others field.name (datum c.in_ok-value.value) es (g.L.Load.left c.field.new.self) (g.L.Load.left c.load_value.new.loader) _
    (rw c.as_str.ensures.text at c.field.ensures)
    c.in_ok-value.ensures
    (rw (taking_more c.args.fields.now c.loop-field.field-index field es c.loop-field-test.true c.field-item.is) at c.loop-field.invariant))
