use Rattle.std.proofs.Common.{◌≡◌, ◌+◌, length, All, []}
use Rattle.caf_turns.specs.Limits.{all_parts, most_splits}
use Rattle.caf_turns.proofs.tests.seats.Given as goal

abbrev pub invariant-loop-n : goal.invariant-loop-n
invariant-loop-n l = (l.seat.table ≡ l.fn.seat.table) × (l.seat.out ≡ l.fn.seat.out) × (l.seat.splits + l.n ≡ most_splits) × (l.seat.parts + l.n ≡ all_parts) × (length l.all.items ≡ l.n)
    × All (λ s. (s.table ≡ l.fn.turns) × (s.out ≡ []) × (s.parts ≡ 1) × (s.steps ≡ [])) l.all.items
