use Rattle.std.proofs.Common.{◌≤◌, map, drop, length}
use Rattle.caf_types.specs.Shape.{tree, parts}
use Rattle.caf_words.specs.Datum.{data_of}
use Rattle.caf_words.specs.Value.{datum}
use Rattle.caf_events.specs.Event.{events, each_events, part_events}
use Rattle.caf_events.specs.Tells.{Tells}
use Rattle.caf_events.proofs.values.+save_value.Given as goal

abbrev pub invariant-save_each-loop-value : goal.invariant-save_each-loop-value
invariant-save_each-loop-value g l =
    (new : g.row.S.Denot) → Tells g.S.Save.told l.saver new (each_events (events (tree l.shape)) (data_of (map datum (drop l.value-index l.values))))
    → Tells g.S.Save.told l.fn.saver new (each_events (events (tree l.shape)) (data_of (map datum l.values)))

abbrev pub invariant-save_fields-loop-i : goal.invariant-save_fields-loop-i
invariant-save_fields-loop-i g l =
    ((new : g.row.S.Denot) → Tells g.S.Save.told l.saver new (part_events (parts (drop l.i l.fields)) (data_of (map datum (drop l.i l.values))))
    → Tells g.S.Save.told l.fn.saver new (part_events (parts l.fields) (data_of (map datum l.values)))) × (l.i ≤ length l.values)
