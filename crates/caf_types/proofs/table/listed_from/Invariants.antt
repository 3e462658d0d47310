use Rattle.std.proofs.Common.{◌≡◌, ◌+◌, length}
use Rattle.caf_types.specs.Table.{numbered}
use Rattle.caf_types.specs.Shape.{entry_views}
use Rattle.caf_types.specs.Listing.{types_of}
use Rattle.caf_types.proofs.table.listed_from.Given as goal

abbrev pub invariant-loop-entry : goal.invariant-loop-entry
invariant-loop-entry l =
    (goal.iterator-loop-entry).can_next l.entry-iterator ×
    (goal.iterator-loop-entry).is_finite l.entry-iterator ×
    (l.id ≡ l.first + length l.yielded) ×
    (types_of l.listed.items ≡ numbered l.first (entry_views l.yielded))
