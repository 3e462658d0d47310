use Rattle.std.proofs.Common.{◌≡◌, length, subst, sym, refl}
use Rattle.caf_message.specs.Entries.{entry_shape}
use Rattle.caf_message.specs.Envelope.{plain_envelope}
use Rattle.caf_driver.specs.Population.{PopulationSeen, IsSound, IsPopulation}
use Rattle.caf_driver.proofs.PlayLemmas.{posted_sound}
use Rattle.caf_driver.proofs.population.Population.notify.Goals as goal

pub returns-clause-population : goal.returns-clause-population
returns-clause-population g c =
    let valid = g.B.Behavior.is_valid in
    let meaning = g.B.Behavior.rules in
    let entries = g.B.Entries.entries in
    let e = plain_envelope c.args.envelope in
    let old : PopulationSeen g.row.B.Denot = record { actors = c.self.inside.actors.items; mail = c.self.inside.mail; latest = c.self.inside.latest; handled = c.self.inside.handled } in
    let new : PopulationSeen g.row.B.Denot = record old { mail = c.push.new.self } in
    let view : old ≡ c.args.self.now = c.self.view_is in
    let h = subst (IsPopulation valid meaning entries) (sym view) c.requires.population in
    let sound = subst (λ (p : PopulationSeen _). IsSound (entry_shape entries) (length p.actors) p.latest e) (sym view) c.requires.sound in
    posted_sound valid meaning entries old new e h sound refl c.in_ok-push.ensures
