use Rattle.std.proofs.Common.{◌≡◌, map, drop}
use Rattle.caf_types.specs.Shape.{tree}
use Rattle.caf_words.specs.Several.{several}
use Rattle.caf_words.specs.Value.{datum}
use Rattle.caf_words.proofs.LoopLemmas.{with_front}
use Rattle.caf_words.proofs.reading.values_of_shapes.Given as goal

abbrev pub invariant-loop-shape : goal.invariant-loop-shape
invariant-loop-shape l = with_front (map datum l.values.items) (several (map tree (drop l.shape-index l.shapes)) l.rest) ≡ several (map tree l.shapes) l.words
