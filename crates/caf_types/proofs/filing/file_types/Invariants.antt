use Rattle.std.proofs.Common.{take, drop, ◌++◌}
use Rattle.std.specs.Ordering.{nat_cmp}
use Rattle.std.specs.BTreeMap.{get, get_by_text}
use Rattle.caf_types.specs.Listing.{types_of, AreFiled}
use Rattle.caf_types.specs.New.{AreNew}
use Rattle.caf_types.proofs.filing.file_types.Given as goal

abbrev pub invariant-loop-i : goal.invariant-loop-i
invariant-loop-i l = record {
  filed : AreFiled 0 (types_of l.listed ++ types_of (take l.i l.added)) (get nat_cmp l.ids) (get_by_text l.names);
  new : AreNew (types_of l.listed ++ types_of (take l.i l.added)) (types_of (drop l.i l.added));
}
