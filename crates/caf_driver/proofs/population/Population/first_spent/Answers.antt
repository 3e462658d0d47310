use Rattle.std.proofs.Common.{◌≤◌, ◌<◌, ◌∙◌, length, slice_index_or, subst, sym, ap, rules}
use Rattle.std.proofs.lemmas.List.{take_all, get_or_default}
use Rattle.caf_types.specs.Limits.{latest_stamp}
use Rattle.caf_driver.specs.Places.{IsRising, has_place}
use Rattle.caf_driver.specs.Population.{PopulationSeen}
use Rattle.caf_driver.proofs.SpentLemmas.{early_not_spent, waits_offered, before_it}
use Rattle.caf_driver.proofs.population.Population.first_spent.Goals as goal

pub returns-then-self-lt-LATEST_STAMP-clause-none : goal.returns-then-self-lt-LATEST_STAMP-clause-none
returns-then-self-lt-LATEST_STAMP-clause-none g c = λ none place spent.
    let less = subst (λ (p : PopulationSeen _). p.latest < latest_stamp) c.self.view_is c.if-self-lt-LATEST_STAMP.true in
    early_not_spent g.B.Behavior.is_valid g.B.Behavior.rules g.B.Entries.entries c.args.self.now c.requires.population less place spent

pub returns-then-is_spent-clause-some : goal.returns-then-is_spent-clause-some
returns-then-is_spent-clause-some g c =
    let now = c.args.self.now in
    let list = c.as_slice-place-items.result.now in
    let place = slice_index_or list c.loop-place.place-index 0 in
    let same = c.as_slice-place-items.ensures ∙ c.places.ensures ∙ ap (λ (p : PopulationSeen _). p.mail.offered) c.self.view_is in
    let here = get_or_default list c.loop-place.place-index 0 place c.loop-place-test.true in
    let rising = subst IsRising (sym same) c.requires.population.mail.rising in
    record {
      spent = c.is_spent.ensures.yes c.if-is_spent.true;
      first = λ q less spent.
          let offered = ap (λ xs. has_place xs q) same ∙ waits_offered now.mail q spent.waits.0 c.requires.population.mail spent.waits.1 in
          c.loop-place.invariant q (before_it list c.loop-place.place-index place q rising here c.loop-place-test.true less offered) spent;
    }

pub returns-clause-none : goal.returns-clause-none
returns-clause-none g c = λ none place spent.
    let now = c.args.self.now in
    let list = c.as_slice-place-items.result.now in
    let past : length list ≤ c.loop-place.place-index = search rules in
    let same = take_all c.loop-place.place-index list past ∙ c.as_slice-place-items.ensures ∙ c.places.ensures ∙ ap (λ (p : PopulationSeen _). p.mail.offered) c.self.view_is in
    let offered = waits_offered now.mail place spent.waits.0 c.requires.population.mail spent.waits.1 in
    c.loop-place.invariant place (ap (λ xs. has_place xs place) same ∙ offered) spent
