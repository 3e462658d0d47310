use Rattle.std.proofs.Common.{◌≡◌, ◌≤◌, ◌+◌, ◌∙◌, ℕ, List, [], false, sym, subst, arith}
use Rattle.std.specs.List.{AllByRecursion}
use Rattle.std.proofs.Math.Path.{fun_ext}
use Rattle.caf_message.specs.declared.envelope.Taken.{Taken}
use Rattle.caf_message.specs.Envelope.{outside}
use Rattle.caf_driver.specs.Mail.{waiting_in}
use Rattle.caf_driver.specs.Driver.{IsDriven}
use Rattle.caf_driver.specs.Opening.{AreFresh, StartsAt}
use Rattle.caf_driver.proofs.DrivenLemmas.{opening_driven}
use Rattle.caf_driver.proofs.driver.Driver.new.Goals as goal

pub new-requires-clause-fresh : goal.new-requires-clause-fresh
new-requires-clause-fresh g c = subst (AreFresh g.B.Behavior.rules) (sym c.into_vec.ensures) c.requires.fresh

pub invariant_of-result : goal.invariant_of-result
invariant_of-result g c = λ kept.
    let made = c.in_ok-population.ensures in
    record {
      population = made.population;
      silent = λ none. made.empty;
      heard = λ none. omega arith;
      notices = subst (AllByRecursion (λ (e : Taken). 0 ≤ e.stamp + 1)) (sym (made.empty outside 0)) tt;
    }

pub returns-clause-driven : goal.returns-clause-driven
returns-clause-driven g c = λ start at.
    let made = c.in_ok-population.ensures in
    let population = c.in_ok-population.population in
    let none : ◌≡◌ {A = ℕ → ℕ → List Taken} (waiting_in population.mail) (λ a b. []) = fun_ext (λ a. fun_ext (λ b. made.empty a b)) in
    let starts = subst (StartsAt start) (sym (made.actors ∙ c.into_vec.ensures)) at in
    subst (λ (w : ℕ → ℕ → List Taken). IsDriven g.B.Behavior.rules start (record { actors = population.actors; waiting = w; spoken = 0; has_stopped = false; is_broken = false })) (sym none)
    (opening_driven g.B.Behavior.rules start population.actors made.untaken starts)
