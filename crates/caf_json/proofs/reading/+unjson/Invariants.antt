use Rattle.std.proofs.Common.{◌≡◌, drop, map}
use Rattle.caf_types.specs.Shape.{tree, parts}
use Rattle.caf_words.specs.Value.{datum}
use Rattle.serde_json.specs.View.{view, items_view}
use Rattle.caf_json.specs.Reading.{unjson, each_read, parts_read}
use Rattle.caf_json.proofs.ReadingLemmas.{with_front}
use Rattle.caf_json.proofs.reading.+unjson.Given as goal

abbrev pub invariant-items_of-loop-i : goal.invariant-items_of-loop-i
invariant-items_of-loop-i l =
    with_front (map datum l.values.items) (each_read (unjson (tree l.shape)) l.i (items_view (drop l.i l.items))) ≡ each_read (unjson (tree l.shape)) 0 (items_view l.items)

abbrev pub invariant-fields_of-loop-i : goal.invariant-fields_of-loop-i
invariant-fields_of-loop-i l = with_front (map datum l.values.items) (parts_read (parts (drop l.i l.fields)) l.i (view l.json)) ≡ parts_read (parts l.fields) 0 (view l.json)
