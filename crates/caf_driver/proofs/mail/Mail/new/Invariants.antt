use Rattle.std.proofs.Common.{◌≡◌, ℕ, length, slice_index_or}
use Rattle.caf_driver.specs.Arrivals.{nothing_arriving}
use Rattle.caf_driver.proofs.mail.Mail.new.Given as goal

abbrev pub invariant-loop : goal.invariant-loop
invariant-loop l = (length l.arrivals.items ≡ l.counter) × ((b : ℕ) → slice_index_or l.arrivals.items b nothing_arriving ≡ nothing_arriving)
