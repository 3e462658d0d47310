use Rattle.std.proofs.Common.{◌≡◌, ◌≢◌, ◌+◌, ◌≤◌, ◌++◌, length, map, Some, None, vec_capacity}
use Rattle.std.specs.Vec.Iter.{into_iter_items}
use Rattle.std.specs.List.{AllByRecursion}
use Rattle.caf_turns.proofs.lists.emptied.Given as goal

abbrev pub invariant-loop-slot : goal.invariant-loop-slot
invariant-loop-slot g l =
    (map Some l.room.items ++ into_iter_items l.slot-iterator ≡ l.fn.slots.items)
    × (length l.room.items + length (into_iter_items l.slot-iterator) ≤ vec_capacity l.room)
    × AllByRecursion (λ o. o ≢ None) (into_iter_items l.slot-iterator)
