use Rattle.std.proofs.Common.{◌≡◌, ℕ, true, take}
use Rattle.caf_driver.specs.Places.{has_place}
use Rattle.caf_driver.specs.Mail.{waiting_in}
use Rattle.caf_driver.specs.Driver.{IsSpent}
use Rattle.caf_driver.proofs.population.Population.first_spent.Given as goal

abbrev pub invariant-loop-place : goal.invariant-loop-place
invariant-loop-place g l = (q : ℕ) → has_place (take l.place-index l.place-items) q ≡ true → IsSpent l.fn.self.actors (waiting_in l.fn.self.mail) q → ⊥
