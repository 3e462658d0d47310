use Rattle.std.proofs.Common.{◌≡◌, map, ◌-◌, drop}
use Rattle.caf_types.specs.Shape.{tree, parts}
use Rattle.caf_words.specs.Value.{datum}
use Rattle.caf_words.specs.Reading.{many, reading, each_reading}
use Rattle.caf_words.proofs.LoopLemmas.{with_front}
use Rattle.caf_words.proofs.reading.+value_at.Given as goal

abbrev pub invariant-fields_at-loop-field : goal.invariant-fields_at-loop-field
invariant-fields_at-loop-field l = with_front (map datum l.values.items) (each_reading (parts (drop l.field-index l.fields)) l.rest) ≡ each_reading (parts l.fields) l.words

abbrev pub invariant-items_at-loop : goal.invariant-items_at-loop
invariant-items_at-loop l = with_front (map datum l.items.items) (many (reading (tree l.shape)) (l.count - l.counter) l.rest) ≡ many (reading (tree l.shape)) l.count l.words
