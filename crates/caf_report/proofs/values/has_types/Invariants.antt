use Rattle.std.proofs.Common.{◌≡◌, drop, is_some}
use Rattle.caf_types.specs.TypeTable.{seen}
use Rattle.caf_words.specs.Several.{ids_of, shapes_at}
use Rattle.caf_report.proofs.values.has_types.Given as goal

abbrev pub invariant-loop-id : goal.invariant-loop-id
invariant-loop-id l = is_some (shapes_at (seen l.table) (ids_of (drop l.id-index l.types))) ≡ is_some (shapes_at (seen l.table) (ids_of l.types))
