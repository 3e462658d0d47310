use Rattle.std.proofs.Common.{◌≡◌, ◌+◌, ◌≤◌, ◌++◌, length, map, Some, vec_capacity}
use Rattle.std.specs.Vec.Iter.{into_iter_items}
use Rattle.caf_turns.proofs.lists.filled.Given as goal

abbrev pub invariant-loop-body : goal.invariant-loop-body
invariant-loop-body g l =
    (l.slots.items ++ map Some (into_iter_items l.body-iterator) ≡ map Some l.fn.bodies.items)
    × (length l.slots.items + length (into_iter_items l.body-iterator) ≤ vec_capacity l.slots)
