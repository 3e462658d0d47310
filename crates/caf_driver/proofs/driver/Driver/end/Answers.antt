use Rattle.std.proofs.Common.{◌≤◌, ◌∙◌, min, subst, sym, ap}
use Rattle.caf_driver.specs.Mail.{waiting_in}
use Rattle.caf_driver.specs.Population.{handled_by}
use Rattle.caf_driver.specs.Driver.{IsSpent}
use Rattle.caf_driver.specs.Driving.{DriverSeen, state_of}
use Rattle.caf_driver.proofs.DrivingLemmas.{settled_of}
use Rattle.caf_driver.proofs.SpentLemmas.{some_waits}
use Rattle.caf_driver.proofs.driver.Driver.end.Goals as goal

pub returns-then-is_at_rest-clause-settled : goal.returns-then-is_at_rest-clause-settled
returns-then-is_at_rest-clause-settled g c =
    let valid = g.B.Behavior.is_valid in
    let rules = g.B.Behavior.rules in
    let entries = g.B.Entries.entries in
    let view = c.self.view_is in
    let whole = ap (λ (d : DriverSeen _). d.is_broken) view ∙ c.requires.whole in
    let driving = c.self.invariant whole in
    let h = driving.population in
    settled_of valid rules entries (state_of c.args.self.now) c.self.inside.population h (ap (λ (d : DriverSeen _). d.actors) (sym view))

pub returns-then-handled-budget-clause-end : goal.returns-then-handled-budget-clause-end
returns-then-handled-budget-clause-end g c =
    let valid = g.B.Behavior.is_valid in
    let rules = g.B.Behavior.rules in
    let entries = g.B.Entries.entries in
    let view = c.self.view_is in
    let whole = ap (λ (d : DriverSeen _). d.is_broken) view ∙ c.requires.whole in
    let driving = c.self.invariant whole in
    let h = driving.population in
    let some = c.is_at_rest.ensures.waits c.if-is_at_rest.false in
    let waits = some_waits c.self.inside.population.mail h.mail some in
    let mail = ap (λ (d : DriverSeen _). d.mail) view in
    let sum = ap (λ (d : DriverSeen _). min (handled_by d.actors) 18446744073709551615) view in
    ((waits.0, waits.1, λ none. waits.2 (ap (λ v. waiting_in v waits.0 waits.1) mail ∙ none)), subst (λ n. c.args.budget ≤ n) (c.handled.ensures ∙ h.handled ∙ sum) c.if-handled-budget.true)

pub returns-then-handled-budget-clause-settled : goal.returns-then-handled-budget-clause-settled
returns-then-handled-budget-clause-settled g c =
    let valid = g.B.Behavior.is_valid in
    let rules = g.B.Behavior.rules in
    let entries = g.B.Entries.entries in
    let view = c.self.view_is in
    let whole = ap (λ (d : DriverSeen _). d.is_broken) view ∙ c.requires.whole in
    let driving = c.self.invariant whole in
    let h = driving.population in
    settled_of valid rules entries (state_of c.args.self.now) c.self.inside.population h (ap (λ (d : DriverSeen _). d.actors) (sym view))

pub returns-in-Some-clause-settled : goal.returns-in-Some-clause-settled
returns-in-Some-clause-settled g c =
    let valid = g.B.Behavior.is_valid in
    let rules = g.B.Behavior.rules in
    let entries = g.B.Entries.entries in
    let view = c.self.view_is in
    let whole = ap (λ (d : DriverSeen _). d.is_broken) view ∙ c.requires.whole in
    let driving = c.self.invariant whole in
    let h = driving.population in
    settled_of valid rules entries (state_of c.args.self.now) c.self.inside.population h (ap (λ (d : DriverSeen _). d.actors) (sym view))

pub returns-in-None-clause-none : goal.returns-in-None-clause-none
returns-in-None-clause-none g c = λ none.
    let valid = g.B.Behavior.is_valid in
    let rules = g.B.Behavior.rules in
    let entries = g.B.Entries.entries in
    let view = c.self.view_is in
    let whole = ap (λ (d : DriverSeen _). d.is_broken) view ∙ c.requires.whole in
    let driving = c.self.invariant whole in
    let h = driving.population in
    let some = c.is_at_rest.ensures.waits c.if-is_at_rest.false in
    let waits = some_waits c.self.inside.population.mail h.mail some in
    let mail = ap (λ (d : DriverSeen _). d.mail) view in
    record {
      waits = (waits.0, waits.1, λ empty. waits.2 (ap (λ v. waiting_in v waits.0 waits.1) mail ∙ empty));
      fresh = λ place spent. c.in-None.ensures.none none place (subst (λ (d : DriverSeen _). IsSpent d.actors (waiting_in d.mail) place) (sym view) spent);
    }

pub returns-in-None-clause-settled : goal.returns-in-None-clause-settled
returns-in-None-clause-settled g c =
    let valid = g.B.Behavior.is_valid in
    let rules = g.B.Behavior.rules in
    let entries = g.B.Entries.entries in
    let view = c.self.view_is in
    let whole = ap (λ (d : DriverSeen _). d.is_broken) view ∙ c.requires.whole in
    let driving = c.self.invariant whole in
    let h = driving.population in
    settled_of valid rules entries (state_of c.args.self.now) c.self.inside.population h (ap (λ (d : DriverSeen _). d.actors) (sym view))
