use Rattle.std.proofs.Common.{◌≡◌, ◌+◌, length, All, []}
use Rattle.caf_turns.proofs.tests.join_all.Given as goal

abbrev pub invariant-loop-theirs : goal.invariant-loop-theirs
invariant-loop-theirs l = (l.seat.table ≡ l.fn.seat.table) × (l.seat.out ≡ []) × (l.seat.parts + length l.back.items ≡ l.fn.seat.parts + length l.fn.back.items)
    × All (λ s. (s.table ≡ l.fn.turns) × (s.out ≡ []) × (s.parts ≡ 1)) l.back.items

abbrev pub decreases-loop-theirs : goal.decreases-loop-theirs
decreases-loop-theirs l = length l.back.items
