use Rattle.std.proofs.Common.{◌≡◌, ℕ, length}
use Rattle.caf_driver.specs.Runs.{count_at}
use Rattle.caf_driver.proofs.arrivals.Arrivals.no_counts.Given as goal

abbrev pub invariant-loop : goal.invariant-loop
invariant-loop l = (length l.taken.items ≡ l.counter) × ((a : ℕ) → count_at l.taken.items a ≡ 0)
