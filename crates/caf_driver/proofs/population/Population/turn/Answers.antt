use Rattle.std.proofs.Common.{◌≡◌, ◌<◌, ℕ, length, map, subst, sym}
use Rattle.caf_types.specs.Limits.{latest_stamp}
use Rattle.caf_message.specs.declared.envelope.Taken.{Taken}
use Rattle.caf_message.specs.Entries.{entry_shape}
use Rattle.caf_message.specs.Envelope.{plain_envelope}
use Rattle.caf_driver.specs.Mail.{waiting_in}
use Rattle.caf_driver.specs.Population.{PopulationSeen, IsSound, IsPopulation}
use Rattle.caf_driver.specs.Driver.{IsSpent}
use Rattle.caf_driver.proofs.DrivingLemmas.{population_out, taken_all, early_stamp, early_waiting}
use Rattle.caf_driver.proofs.population.Population.turn.Goals as goal

pub take-requires-clause-population : goal.take-requires-clause-population
take-requires-clause-population g c =
    let valid = g.B.Behavior.is_valid in
    let rules = g.B.Behavior.rules in
    let entries = g.B.Entries.entries in
    let place = c.choose_place-place.result in
    let es = map plain_envelope c.in_ok-batch.batch in
    let old : PopulationSeen g.row.B.Denot = record { actors = c.self.inside.actors.items; mail = c.self.inside.mail; latest = c.self.inside.latest; handled = c.self.inside.handled } in
    let view : old ≡ c.args.self.now = c.self.view_is in
    let h = subst (IsPopulation valid rules entries) (sym view) c.requires.population in
    let out = c.in_ok-batch.ensures.taken in
    let fresh = subst (λ (p : PopulationSeen _). (q : ℕ) → IsSpent p.actors (waiting_in p.mail) q → ⊥) (sym view) c.requires.fresh in
    let offered = c.choose_place-place.ensures in
    population_out valid rules entries old place es c.collect.new.mail h out

pub take-requires-clause-sound : goal.take-requires-clause-sound
take-requires-clause-sound g c =
    let valid = g.B.Behavior.is_valid in
    let rules = g.B.Behavior.rules in
    let entries = g.B.Entries.entries in
    let place = c.choose_place-place.result in
    let es = map plain_envelope c.in_ok-batch.batch in
    let old : PopulationSeen g.row.B.Denot = record { actors = c.self.inside.actors.items; mail = c.self.inside.mail; latest = c.self.inside.latest; handled = c.self.inside.handled } in
    let view : old ≡ c.args.self.now = c.self.view_is in
    let h = subst (IsPopulation valid rules entries) (sym view) c.requires.population in
    let out = c.in_ok-batch.ensures.taken in
    let fresh = subst (λ (p : PopulationSeen _). (q : ℕ) → IsSpent p.actors (waiting_in p.mail) q → ⊥) (sym view) c.requires.fresh in
    let offered = c.choose_place-place.ensures in
    taken_all old.mail place es c.collect.new.mail out (IsSound (entry_shape entries) (length old.actors) old.latest) (λ a. h.sound a place)

pub take-requires-clause-stamps : goal.take-requires-clause-stamps
take-requires-clause-stamps g c =
    let valid = g.B.Behavior.is_valid in
    let rules = g.B.Behavior.rules in
    let entries = g.B.Entries.entries in
    let place = c.choose_place-place.result in
    let es = map plain_envelope c.in_ok-batch.batch in
    let old : PopulationSeen g.row.B.Denot = record { actors = c.self.inside.actors.items; mail = c.self.inside.mail; latest = c.self.inside.latest; handled = c.self.inside.handled } in
    let view : old ≡ c.args.self.now = c.self.view_is in
    let h = subst (IsPopulation valid rules entries) (sym view) c.requires.population in
    let out = c.in_ok-batch.ensures.taken in
    let fresh = subst (λ (p : PopulationSeen _). (q : ℕ) → IsSpent p.actors (waiting_in p.mail) q → ⊥) (sym view) c.requires.fresh in
    let offered = c.choose_place-place.ensures in
    taken_all old.mail place es c.collect.new.mail out (λ (e : Taken). e.stamp < latest_stamp) (early_waiting valid rules entries old h place offered fresh)

pub take-requires-clause-stamp : goal.take-requires-clause-stamp
take-requires-clause-stamp g c = λ a q.
    let valid = g.B.Behavior.is_valid in
    let rules = g.B.Behavior.rules in
    let entries = g.B.Entries.entries in
    let place = c.choose_place-place.result in
    let es = map plain_envelope c.in_ok-batch.batch in
    let old : PopulationSeen g.row.B.Denot = record { actors = c.self.inside.actors.items; mail = c.self.inside.mail; latest = c.self.inside.latest; handled = c.self.inside.handled } in
    let view : old ≡ c.args.self.now = c.self.view_is in
    let h = subst (IsPopulation valid rules entries) (sym view) c.requires.population in
    let out = c.in_ok-batch.ensures.taken in
    let fresh = subst (λ (p : PopulationSeen _). (q : ℕ) → IsSpent p.actors (waiting_in p.mail) q → ⊥) (sym view) c.requires.fresh in
    let offered = c.choose_place-place.ensures in
    early_stamp valid rules entries old h place offered fresh a q
