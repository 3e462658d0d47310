use Rattle.std.proofs.Common.{◌<◌, false, IfSome, sym, ap, subst, refl}
use Rattle.caf_driver.specs.Mail.{waiting_in}
use Rattle.caf_driver.specs.Population.{PopulationSeen}
use Rattle.caf_driver.specs.Driver.{IsDriven}
use Rattle.caf_driver.specs.Driving.{DriverSeen, state_of, IsDriving}
use Rattle.caf_driver.specs.Stepping.{HasTakenRuns, HasStepped}
use Rattle.caf_driver.proofs.DrivingLemmas.{settled_of}
use Rattle.caf_driver.proofs.LegalLemmas.{legal_driven}
use Rattle.caf_driver.proofs.SteppingLemmas.{by_answer, some_through, turned_by_runs, has_started, has_stepped}
use Rattle.caf_driver.proofs.TurnedLemmas.{few_of, driving_turned, driven_turned}
use Rattle.caf_driver.proofs.driver.Driver.step.Goals as goal

pub invariant_of-self-2 : goal.invariant_of-self-2
invariant_of-self-2 g c = λ kept.
    let valid = g.B.Behavior.is_valid in
    let meaning = g.B.Behavior.rules in
    let entries = g.B.Entries.entries in
    let place = c.args.place in
    let old = c.self.inside.population in
    let new = c.step.new.self in
    let view = c.self.view_is in
    let driving = c.self.invariant c.if-self.false in
    let has = c.in_ok-stamp.ensures in
    let spoken = c.self.inside.spoken in
    let runs = c.as_slice.result.now in
    by_answer (IsDriving valid meaning entries new spoken) c.in_ok-stamp.stamp
    (λ none. subst (λ (p : PopulationSeen _). IsDriving valid meaning entries p spoken) (sym (has.unchanged none)) driving)
    (λ stamp is.
    let taken = subst (λ o. IfSome o (λ s. HasTakenRuns meaning place runs s old new)) is has.taken in
    driving_turned valid meaning entries old new driving.population has.population (turned_by_runs meaning place runs stamp old new taken) spoken (has_started meaning place runs stamp old new taken valid entries spoken driving) driving)

pub returns-clause-stepped : goal.returns-clause-stepped
returns-clause-stepped g c =
    let meaning = g.B.Behavior.rules in
    let place = c.args.place in
    let runs = c.as_slice.result.now in
    let old = c.self.inside.population in
    let new = c.step.new.self in
    let spoken = c.self.inside.spoken in
    let stopped = c.self.inside.has_stopped in
    let now : DriverSeen g.row.B.Denot = record { actors = new.actors; mail = new.mail; spoken = spoken; has_stopped = stopped; is_broken = false } in
    subst (λ named. IfSome c.in_ok-stamp.stamp (λ stamp. HasStepped meaning place named stamp (state_of c.args.self.now) (state_of now))) c.as_slice.ensures
    (some_through (λ stamp. HasTakenRuns meaning place runs stamp old new) (λ stamp. HasStepped meaning place runs stamp (state_of c.args.self.now) (state_of now))
    (λ stamp taken. subst (λ (d : DriverSeen _). HasStepped meaning place runs stamp (state_of d) (state_of now)) c.self.view_is (has_stepped meaning place runs stamp old new taken spoken stopped c.self.inside.is_broken false))
    c.in_ok-stamp.stamp c.in_ok-stamp.ensures.taken)

pub returns-clause-driven : goal.returns-clause-driven
returns-clause-driven g c = λ start driven.
    let valid = g.B.Behavior.is_valid in
    let meaning = g.B.Behavior.rules in
    let entries = g.B.Entries.entries in
    let place = c.args.place in
    let old = c.self.inside.population in
    let new = c.step.new.self in
    let view = c.self.view_is in
    let driving = c.self.invariant c.if-self.false in
    let has = c.in_ok-stamp.ensures in
    let runs = c.as_slice.result.now in
    let said = c.self.inside.spoken in
    let closed = c.self.inside.has_stopped in
    let now : DriverSeen g.row.B.Denot = record { actors = new.actors; mail = new.mail; spoken = said; has_stopped = closed; is_broken = false } in
    by_answer (IsDriven meaning start (state_of now)) c.in_ok-stamp.stamp
    (λ none.
    let here = subst (λ (d : DriverSeen _). IsDriven meaning start (state_of d)) (sym view) driven in
    let whole = subst (λ b. IsDriven meaning start (state_of (record { actors = old.actors; mail = old.mail; spoken = said; has_stopped = closed; is_broken = b }))) c.if-self.false here in
    subst (λ (p : PopulationSeen _). IsDriven meaning start (state_of (record { actors = p.actors; mail = p.mail; spoken = said; has_stopped = closed; is_broken = false }))) (sym (has.unchanged none)) whole)
    (λ stamp is.
    let taken = subst (λ o. IfSome o (λ s. HasTakenRuns meaning place runs s old new)) is has.taken in
    let actors = ap (λ (d : DriverSeen _). d.actors) (sym view) in
    let mail = ap (λ (d : DriverSeen _). d.mail) (sym view) in
    let spoken = ap (λ (d : DriverSeen _). d.spoken) view in
    let stopped = ap (λ (d : DriverSeen _). d.has_stopped) view in
    let started = subst (λ n. 0 < n) spoken (has_started meaning place runs stamp old new taken valid entries said driving) in
    driven_turned meaning start (state_of c.args.self.now) (state_of now) old new actors (λ a b. ap (λ v. waiting_in v a b) mail) refl (λ a b. refl) spoken stopped started (turned_by_runs meaning place runs stamp old new taken) driven)

pub returns-clause-legal : goal.returns-clause-legal
returns-clause-legal g c = λ start driven.
    let meaning = g.B.Behavior.rules in
    let after = c.step.new.self in
    let now : DriverSeen g.row.B.Denot = record { actors = after.actors; mail = after.mail; spoken = c.self.inside.spoken; has_stopped = c.self.inside.has_stopped; is_broken = false } in
    let settled = settled_of g.B.Behavior.is_valid meaning g.B.Entries.entries (state_of now) after c.in_ok-stamp.ensures.population refl in
    legal_driven meaning start (state_of now) (few_of meaning start (state_of now) settled) (returns-clause-driven g c start driven)
