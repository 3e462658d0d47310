use Rattle.std.proofs.Common.{◌≡◌, ◌+◌, map, drop, sym, ap, Some, subst}
use Rattle.std.proofs.lemmas.List.{map_push}
use Rattle.caf_types.specs.Shape.{tree, parts}
use Rattle.caf_words.specs.Value.{datum}
use Rattle.serde_json.specs.View.{view, items_view}
use Rattle.serde_json.specs.Find.{get}
use Rattle.caf_json.specs.Reading.{unjson, each_read, parts_read, inside, member_read}
use Rattle.caf_json.proofs.ReadingLemmas.{goes_on, items_more, fields_more}
use Rattle.caf_json.proofs.reading.+unjson.Goals as goal

pub items_of-loop-i-preserved : goal.items_of-loop-i-preserved
items_of-loop-i-preserved t c =
    let item = c.index-items-i.result in
    let one = unjson (tree c.args.shape.now) in
    rw (c.in_ok-push-in-Ok.ensures.items, map_push datum c.loop-i.values.items c.in-Ok.value)
    (goes_on (map datum c.loop-i.values.items) (inside c.loop-i.i (one (view item))) (each_read one (c.loop-i.i + 1) (items_view (drop (c.loop-i.i + 1) c.args.items.now))) (datum c.in-Ok.value) _
    (ap (inside c.loop-i.i) c.in-Ok.ensures)
    (rw (items_more one c.loop-i.i c.args.items.now c.loop-i.i item c.loop-i-test.true c.index-items-i.is) at c.loop-i.invariant))

pub fields_of-loop-i-preserved : goal.fields_of-loop-i-preserved
fields_of-loop-i-preserved t c =
    let f = c.index-fields-i.result in
    let one = unjson (tree f.shape) in
    let name : c.as_str.result.now ≡ f.name = c.as_str.ensures.text in
    let found : get f.name (view c.args.json.now) ≡ Some (view c.in-Some.member.now) =
    subst (λ n. get n (view c.args.json.now) ≡ Some (view c.in-Some.member.now)) name (sym c.in-Some.ensures) in
    rw (c.in_ok-push-in-Ok.ensures.items, map_push datum c.loop-i.values.items c.in-Ok.value)
    (goes_on (map datum c.loop-i.values.items) (inside c.loop-i.i (member_read one (get f.name (view c.args.json.now)))) (parts_read (parts (drop (c.loop-i.i + 1) c.args.fields.now)) (c.loop-i.i + 1) (view c.args.json.now)) (datum c.in-Ok.value) _
    (rw found (ap (inside c.loop-i.i) c.in-Ok.ensures))
    (rw (fields_more c.args.fields.now c.loop-i.i c.loop-i.i f (view c.args.json.now) c.loop-i-test.true c.index-fields-i.is) at c.loop-i.invariant))
