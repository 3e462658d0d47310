use Rattle.std.proofs.Common.{◌≡◌, ◌+◌, drop}
use Rattle.caf_types.specs.Table.{first_deep}
use Rattle.caf_types.specs.Shape.{entry_views}
use Rattle.caf_types.proofs.table.first_deep_entry.Given as goal

abbrev pub invariant-loop-i : goal.invariant-loop-i
invariant-loop-i l = first_deep (l.first + l.i) (entry_views (drop l.i l.entries)) ≡ first_deep l.first (entry_views l.entries)
