use Rattle.std.proofs.Common.{◌≡◌, ◌-◌, [], map, drop, length}
use Rattle.caf_types.specs.Shape.{tree, parts}
use Rattle.caf_words.specs.Value.{datum}
use Rattle.caf_text.specs.TextReading.{reading, values, fields_at}
use Rattle.caf_text.proofs.LoopLemmas.{with_front}
use Rattle.caf_text.proofs.reading.+value_at.Given as goal

abbrev pub invariant-values_at-loop : goal.invariant-values_at-loop
invariant-values_at-loop l = with_front (map datum l.items.items) (values (reading (tree l.shape)) (length l.bytes - l.counter) l.rest) ≡ values (reading (tree l.shape)) (length l.bytes) l.bytes

abbrev pub invariant-fields_at-loop-field : goal.invariant-fields_at-loop-field
invariant-fields_at-loop-field l = with_front (map datum l.values.items) (fields_at (parts (drop l.field-index l.fields)) l.before l.rest) ≡ fields_at (parts l.fields) [] l.bytes
