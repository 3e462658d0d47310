use Rattle.std.proofs.Common.{◌≡◌, ◌+◌, drop}
use Rattle.caf_types.specs.Table.{first_taken}
use Rattle.caf_types.specs.Shape.{entry_views}
use Rattle.caf_types.specs.TypeTable.{seen}
use Rattle.caf_types.proofs.table.TypeTable.first_taken.Given as goal

abbrev pub invariant-loop-i : goal.invariant-loop-i
invariant-loop-i l = first_taken (seen l.self).types (l.first + l.i) (entry_views (drop l.i l.entries)) ≡ first_taken (seen l.self).types l.first (entry_views l.entries)
