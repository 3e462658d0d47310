use Rattle.std.proofs.Common.{◌<◌, ◌∙◌, subst, sym, ap, refl}
use Rattle.caf_driver.specs.Mail.{waiting_in}
use Rattle.caf_driver.specs.Driver.{IsSpent}
use Rattle.caf_driver.specs.Driving.{DriverSeen, state_of, room_of}
use Rattle.caf_driver.proofs.TurnedLemmas.{driving_turned, room_less, driven_turned}
use Rattle.caf_driver.proofs.driver.Driver.turn.Goals as goal

pub turn-requires-clause-fresh : goal.turn-requires-clause-fresh
turn-requires-clause-fresh g c = λ place spent.
    c.requires.goes_on.fresh place (subst (λ (d : DriverSeen _). IsSpent d.actors (waiting_in d.mail) place) c.self.view_is spent)

pub invariant_of-self-2 : goal.invariant_of-self-2
invariant_of-self-2 g c = λ kept.
    let valid = g.B.Behavior.is_valid in
    let rules = g.B.Behavior.rules in
    let entries = g.B.Entries.entries in
    let old = c.self.inside.population in
    let new = c.turn.new.self in
    let view = c.self.view_is in
    let whole = ap (λ (d : DriverSeen _). d.is_broken) view ∙ c.requires.whole in
    let driving = c.self.invariant whole in
    let turned = c.in_ok-turn.ensures.turned in
    let now = c.in_ok-turn.ensures.population in
    let started = subst (λ (d : DriverSeen _). 0 < d.spoken) (sym view) c.requires.started in
    driving_turned valid rules entries old new driving.population now turned c.self.inside.spoken started driving

pub returns-clause-driven : goal.returns-clause-driven
returns-clause-driven g c = λ start driven.
    let valid = g.B.Behavior.is_valid in
    let rules = g.B.Behavior.rules in
    let entries = g.B.Entries.entries in
    let old = c.self.inside.population in
    let new = c.turn.new.self in
    let view = c.self.view_is in
    let whole = ap (λ (d : DriverSeen _). d.is_broken) view ∙ c.requires.whole in
    let driving = c.self.invariant whole in
    let turned = c.in_ok-turn.ensures.turned in
    let now = c.in_ok-turn.ensures.population in
    let actors = ap (λ (d : DriverSeen _). d.actors) (sym view) in
    let mail = ap (λ (d : DriverSeen _). d.mail) (sym view) in
    let spoken = ap (λ (d : DriverSeen _). d.spoken) view in
    let stopped = ap (λ (d : DriverSeen _). d.has_stopped) view in
    driven_turned rules start (state_of c.args.self.now) _ old new actors (λ a b. ap (λ v. waiting_in v a b) mail) refl (λ a b. refl) spoken stopped c.requires.started turned driven

pub returns-clause-less : goal.returns-clause-less
returns-clause-less g c =
    let valid = g.B.Behavior.is_valid in
    let rules = g.B.Behavior.rules in
    let entries = g.B.Entries.entries in
    let old = c.self.inside.population in
    let new = c.turn.new.self in
    let view = c.self.view_is in
    let whole = ap (λ (d : DriverSeen _). d.is_broken) view ∙ c.requires.whole in
    let driving = c.self.invariant whole in
    let turned = c.in_ok-turn.ensures.turned in
    let now = c.in_ok-turn.ensures.population in
    subst (λ list. room_of new.actors < room_of list) (ap (λ (d : DriverSeen _). d.actors) view) (room_less valid rules entries old new driving.population now turned)
