use Rattle.std.proofs.Common.{◌≡◌, ◌<◌, ◌∙◌, length, slice_get, sym, ap, subst, rules}
use Rattle.std.specs.List.{list_any}
use Rattle.caf_types.specs.Limits.{latest_stamp}
use Rattle.caf_driver.specs.Arrivals.{has_last}
use Rattle.caf_driver.specs.Mail.{arriving_at}
use Rattle.caf_driver.specs.Population.{PopulationSeen}
use Rattle.caf_driver.proofs.SpentLemmas.{offered_known, spent_own, spent_mail, not_spent}
use Rattle.caf_driver.proofs.TakenLemmas.{found}
use Rattle.caf_driver.proofs.population.Population.is_spent.Goals as goal

pub returns-then-stamp-eq-LATEST_STAMP-clause-yes : goal.returns-then-stamp-eq-LATEST_STAMP-clause-yes
returns-then-stamp-eq-LATEST_STAMP-clause-yes g c = λ yes.
    let now = c.args.self.now in
    let place = c.args.place in
    let h = c.requires.population in
    let known = subst (λ n. place < n) h.boxes (offered_known now.mail place h.mail c.requires.offered) in
    let inside = subst (λ (p : PopulationSeen _). place < length p.actors) (sym c.self.view_is) known in
    let at = ap (λ (p : PopulationSeen _). slice_get p.actors place) (sym c.self.view_is) ∙ found c.self.inside.actors.items place c.index.result.now c.index.ensures inside in
    let last : c.index.result.now.snapshot.stamp ≡ latest_stamp = search rules in
    spent_own now.actors now.mail place h.mail c.index.result.now at c.requires.offered last

pub returns-else-stamp-eq-LATEST_STAMP-clause-yes : goal.returns-else-stamp-eq-LATEST_STAMP-clause-yes
returns-else-stamp-eq-LATEST_STAMP-clause-yes g c = λ yes.
    let now = c.args.self.now in
    let place = c.args.place in
    let h = c.requires.population in
    let known = subst (λ n. place < n) h.boxes (offered_known now.mail place h.mail c.requires.offered) in
    let inside = subst (λ (p : PopulationSeen _). place < length p.actors) (sym c.self.view_is) known in
    let at = ap (λ (p : PopulationSeen _). slice_get p.actors place) (sym c.self.view_is) ∙ found c.self.inside.actors.items place c.index.result.now c.index.ensures inside in
    let any = c.has_last_stamp.ensures ∙ ap (λ (p : PopulationSeen _). list_any has_last (arriving_at p.mail place).queues) c.self.view_is in
    spent_mail now.actors now.mail place h.mail c.index.result.now at c.requires.offered (sym any ∙ yes)

pub returns-else-stamp-eq-LATEST_STAMP-clause-no : goal.returns-else-stamp-eq-LATEST_STAMP-clause-no
returns-else-stamp-eq-LATEST_STAMP-clause-no g c = λ none spent.
    let now = c.args.self.now in
    let place = c.args.place in
    let h = c.requires.population in
    let known = subst (λ n. place < n) h.boxes (offered_known now.mail place h.mail c.requires.offered) in
    let inside = subst (λ (p : PopulationSeen _). place < length p.actors) (sym c.self.view_is) known in
    let at = ap (λ (p : PopulationSeen _). slice_get p.actors place) (sym c.self.view_is) ∙ found c.self.inside.actors.items place c.index.result.now c.index.ensures inside in
    let any = c.has_last_stamp.ensures ∙ ap (λ (p : PopulationSeen _). list_any has_last (arriving_at p.mail place).queues) c.self.view_is in
    not_spent now.actors now.mail place h.mail c.index.result.now at (λ last. search rules) (sym any ∙ none) spent
