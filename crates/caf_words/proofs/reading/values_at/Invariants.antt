use Rattle.std.proofs.Common.{◌≡◌, map, drop, true}
use Rattle.std.specs.Prelude.{is_some}
use Rattle.caf_types.specs.TypeTable.{seen}
use Rattle.caf_words.specs.Several.{ids_of, shapes_at, shapes_reading}
use Rattle.caf_words.specs.Value.{datum}
use Rattle.caf_words.proofs.LoopLemmas.{with_front}
use Rattle.caf_words.proofs.reading.values_at.Given as goal

abbrev pub invariant-loop-id : goal.invariant-loop-id
invariant-loop-id l =
    (with_front (map datum l.values.items) (shapes_reading (shapes_at (seen l.table) (ids_of (drop l.id-index l.types))) l.rest) ≡ shapes_reading (shapes_at (seen l.table) (ids_of l.types)) l.words)
    × (is_some (shapes_at (seen l.table) (ids_of (drop l.id-index l.types))) ≡ true)
