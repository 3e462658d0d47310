use Rattle.std.proofs.Common.{rules, ◌≡◌, ◌<◌, ◌∙◌, true, false, Bool, length, slice_get, sym, ap}
use Rattle.caf_types.specs.Limits.{latest_stamp}
use Rattle.caf_driver.specs.Mail.{waiting_in}
use Rattle.caf_driver.specs.Runs.{is_batch}
use Rattle.caf_driver.specs.Population.{PopulationSeen}
use Rattle.caf_driver.specs.Stepping.{MayStep}
use Rattle.caf_driver.proofs.TakenLemmas.{found}
use Rattle.caf_driver.proofs.SteppingLemmas.{ok_through, may_step, no_batch}
use Rattle.caf_driver.proofs.population.Population.may_step.Goals as goal

pub returns-clause-may : goal.returns-clause-may
returns-clause-may g c =
    let now = c.args.self.now in
    let place = c.args.place in
    let runs = c.args.runs.now in
    let items = c.self.inside.actors.items in
    let actor = c.index.result.now in
    let known : place < length items = search rules in
    let at = ap (λ (p : PopulationSeen _). slice_get p.actors place) (sym c.self.view_is) ∙ found items place actor c.index.ensures known in
    let early : actor.snapshot.stamp < latest_stamp = search rules in
    let same = ap (λ (p : PopulationSeen _). is_batch (λ a. waiting_in p.mail a place) runs) (sym c.self.view_is) in
    ok_through (λ (may : Bool). may ≡ is_batch (λ a. waiting_in c.self.inside.mail a place) runs) (λ (may : Bool). may ≡ true → MayStep now.actors (waiting_in now.mail) place runs)
    (λ may is yes. may_step now.actors (waiting_in now.mail) place runs actor at early (same ∙ sym is ∙ yes)) c.offers.result c.offers.ensures

pub returns-clause-may_not : goal.returns-clause-may_not
returns-clause-may_not g c =
    let now = c.args.self.now in
    let place = c.args.place in
    let runs = c.args.runs.now in
    let same = ap (λ (p : PopulationSeen _). is_batch (λ a. waiting_in p.mail a place) runs) (sym c.self.view_is) in
    ok_through (λ (may : Bool). may ≡ is_batch (λ a. waiting_in c.self.inside.mail a place) runs) (λ (may : Bool). may ≡ false → MayStep now.actors (waiting_in now.mail) place runs → ⊥)
    (λ may is none. no_batch now.actors (waiting_in now.mail) place runs (same ∙ sym is ∙ none)) c.offers.result c.offers.ensures
