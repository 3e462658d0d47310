use Rattle.std.proofs.Common.{◌≡◌, ◌∙◌, ℕ, length, slice_get, Some, sym, subst, ap}
use Rattle.caf_actor.specs.Actor.{ActorState, IsActor}
use Rattle.caf_driver.specs.Population.{greatest_of, IsPopulation}
use Rattle.caf_driver.proofs.OpeningLemmas.{opening_population, nothing_taken}
use Rattle.caf_driver.proofs.population.Population.new.Goals as goal

pub returns-clause-population : goal.returns-clause-population
returns-clause-population g c =
    let valid = g.B.Behavior.is_valid in
    let meaning = g.B.Behavior.rules in
    let entries = g.B.Entries.entries in
    let actors = c.args.actors.items in
    let same = c.deref.ensures.value in
    let work = subst (λ list. (p : ℕ) (a : ActorState g.row.B.Denot) → slice_get list p ≡ Some a → IsActor valid meaning a) same c.greatest_stamp-latest.ensures.work in
    let latest = c.greatest_stamp-latest.ensures.stamp ∙ ap greatest_of same in
    let boxes : length c.in_ok-mail.mail.arrivals ≡ length actors = c.in_ok-mail.ensures.places ∙ c.len.ensures ∙ c.args.actors.ok.0 in
    subst (λ n. IsPopulation valid meaning entries (record { actors = actors; mail = c.in_ok-mail.mail; latest = n; handled = 0 })) (sym latest)
    (opening_population valid meaning entries actors work c.requires.fresh c.in_ok-mail.mail c.requires.some c.requires.few c.in_ok-mail.ensures.mail boxes c.in_ok-mail.ensures.empty)

pub returns-clause-untaken : goal.returns-clause-untaken
returns-clause-untaken g c =
    let valid = g.B.Behavior.is_valid in
    let meaning = g.B.Behavior.rules in
    let same = c.deref.ensures.value in
    let work = subst (λ list. (p : ℕ) (a : ActorState g.row.B.Denot) → slice_get list p ≡ Some a → IsActor valid meaning a) same c.greatest_stamp-latest.ensures.work in
    nothing_taken valid meaning g.B.Entries.entries c.args.actors.items work c.requires.fresh
