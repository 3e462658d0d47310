use Rattle.std.proofs.Common.{◌≡◌, drop}
use Rattle.std.specs.Prelude.{find}
use Rattle.caf_types.specs.Table.{Named, clashes}
use Rattle.caf_types.specs.Shape.{entry_views}
use Rattle.caf_types.specs.TypeTable.{seen}
use Rattle.caf_types.proofs.table.TypeTable.first_clash.Given as goal

abbrev pub invariant-loop-i : goal.invariant-loop-i
invariant-loop-i l =
    let clash = λ (n : Named). clashes (seen l.self).types (entry_views l.entries) n.name in
    find clash (entry_views (drop l.i l.entries)) ≡ find clash (entry_views l.entries)
