use Rattle.std.proofs.Common.{◌≡◌, ◌<◌, map, length, slice_get, slice_set, ap, sym, subst, ◌∙◌, refl}
use Rattle.std.specs.List.{AllByRecursion}
use Rattle.caf_message.specs.Entries.{entry_shape}
use Rattle.caf_message.specs.Envelope.{plain_envelope}
use Rattle.caf_actor.specs.PlainForms.{plain_post}
use Rattle.caf_actor.specs.PlainPost.{PlainPost}
use Rattle.caf_driver.specs.Population.{PopulationSeen, IsSound, IsPopulation, HasTaken}
use Rattle.caf_driver.proofs.TakenLemmas.{found, all_leads, goes_to, own_senders, population_taken, has_taken, stamp_is}
use Rattle.caf_driver.proofs.population.Population.take.Goals as goal

pub give-requires-clause-caches : goal.give-requires-clause-caches
give-requires-clause-caches g c =
    let before = c.index_mut-actor.result.now in
    let known = subst (λ (p : PopulationSeen _). c.args.place < length p.actors) (sym c.self.view_is) c.requires.place in
    let at = ap (λ (p : PopulationSeen _). slice_get p.actors c.args.place) (sym c.self.view_is) ∙ found c.self.inside.actors.items c.args.place before c.index_mut-actor.ensures.value known in
    (c.requires.population.ready c.args.place before at).caches

pub deliver-requires-clause-places : goal.deliver-requires-clause-places
deliver-requires-clause-places g c =
    let rules = g.B.Behavior.rules in
    let valid = g.B.Behavior.is_valid in
    let entries = g.B.Entries.entries in
    let old = c.args.self.now in
    let es = map plain_envelope c.args.batch in
    let before = c.index_mut-actor.result.now in
    let known = subst (λ (p : PopulationSeen _). c.args.place < length p.actors) (sym c.self.view_is) c.requires.place in
    let at = ap (λ (p : PopulationSeen _). slice_get p.actors c.args.place) (sym c.self.view_is) ∙ found c.self.inside.actors.items c.args.place before c.index_mut-actor.ensures.value known in
    let made = c.in_ok-posts.ensures in
    let leads = all_leads (entry_shape entries) (length old.actors) old.latest es c.requires.sound in
    let ready = c.requires.population.ready c.args.place before at in
    let to = goes_to (length old.actors) (map plain_post c.in_ok-posts.field-0.posts) (made.goes (length old.actors) c.args.place ready leads) in
    let same = ap (λ (p : PopulationSeen _). length p.mail.arrivals) c.self.view_is ∙ c.requires.population.boxes in
    subst (λ n. AllByRecursion (λ (p : PlainPost). p.to < n) (map plain_post c.in_ok-posts.field-0.posts)) (sym same) to

pub returns-clause-population : goal.returns-clause-population
returns-clause-population g c =
    let rules = g.B.Behavior.rules in
    let valid = g.B.Behavior.is_valid in
    let entries = g.B.Entries.entries in
    let place = c.args.place in
    let es = map plain_envelope c.args.batch in
    let given = c.in_ok-posts.field-0 in
    let old : PopulationSeen g.row.B.Denot = record { actors = c.self.inside.actors.items; mail = c.self.inside.mail; latest = c.self.inside.latest; handled = c.self.inside.handled } in
    let new : PopulationSeen g.row.B.Denot = record { actors = slice_set c.self.inside.actors.items place c.give.new.actor; mail = c.deliver.new.mail; latest = c.max-self-inside.result; handled = c.saturating_add-self-inside.result } in
    let view : old ≡ c.args.self.now = c.self.view_is in
    let h = subst (IsPopulation valid rules entries) (sym view) c.requires.population in
    let known = subst (λ (p : PopulationSeen _). place < length p.actors) (sym view) c.requires.place in
    let before = c.index_mut-actor.result.now in
    let at = found old.actors place before c.index_mut-actor.ensures.value known in
    let made = c.in_ok-posts.ensures in
    let sound = subst (λ (p : PopulationSeen _). AllByRecursion (IsSound (entry_shape entries) (length p.actors) p.latest) es) (sym view) c.requires.sound in
    let leads = all_leads (entry_shape entries) (length old.actors) old.latest es sound in
    let own = own_senders valid rules entries old new place es before c.give.new.actor (map plain_post given.posts) given.stamp given.left h at refl made leads in
    let delivered = c.in_ok-deliver.ensures place own in
    population_taken valid rules entries old new place es before c.give.new.actor (map plain_post given.posts) given.stamp given.left h at refl made leads delivered c.max-self-inside.ensures c.saturating_add-self-inside.ensures

pub returns-clause-taken : goal.returns-clause-taken
returns-clause-taken g c =
    let rules = g.B.Behavior.rules in
    let valid = g.B.Behavior.is_valid in
    let entries = g.B.Entries.entries in
    let place = c.args.place in
    let es = map plain_envelope c.args.batch in
    let given = c.in_ok-posts.field-0 in
    let old : PopulationSeen g.row.B.Denot = record { actors = c.self.inside.actors.items; mail = c.self.inside.mail; latest = c.self.inside.latest; handled = c.self.inside.handled } in
    let new : PopulationSeen g.row.B.Denot = record { actors = slice_set c.self.inside.actors.items place c.give.new.actor; mail = c.deliver.new.mail; latest = c.max-self-inside.result; handled = c.saturating_add-self-inside.result } in
    let view : old ≡ c.args.self.now = c.self.view_is in
    let h = subst (IsPopulation valid rules entries) (sym view) c.requires.population in
    let known = subst (λ (p : PopulationSeen _). place < length p.actors) (sym view) c.requires.place in
    let before = c.index_mut-actor.result.now in
    let at = found old.actors place before c.index_mut-actor.ensures.value known in
    let made = c.in_ok-posts.ensures in
    let sound = subst (λ (p : PopulationSeen _). AllByRecursion (IsSound (entry_shape entries) (length p.actors) p.latest) es) (sym view) c.requires.sound in
    let leads = all_leads (entry_shape entries) (length old.actors) old.latest es sound in
    let own = own_senders valid rules entries old new place es before c.give.new.actor (map plain_post given.posts) given.stamp given.left h at refl made leads in
    let delivered = c.in_ok-deliver.ensures place own in
    subst (λ p. HasTaken rules place es p new) view
    (has_taken valid rules entries old new place es before c.give.new.actor (map plain_post given.posts) given.stamp given.left h at refl made leads delivered c.max-self-inside.ensures c.saturating_add-self-inside.ensures)

pub returns-clause-stamp : goal.returns-clause-stamp
returns-clause-stamp g c = λ a q.
    let rules = g.B.Behavior.rules in
    let valid = g.B.Behavior.is_valid in
    let entries = g.B.Entries.entries in
    let place = c.args.place in
    let es = map plain_envelope c.args.batch in
    let given = c.in_ok-posts.field-0 in
    let old : PopulationSeen g.row.B.Denot = record { actors = c.self.inside.actors.items; mail = c.self.inside.mail; latest = c.self.inside.latest; handled = c.self.inside.handled } in
    let new : PopulationSeen g.row.B.Denot = record { actors = slice_set c.self.inside.actors.items place c.give.new.actor; mail = c.deliver.new.mail; latest = c.max-self-inside.result; handled = c.saturating_add-self-inside.result } in
    let view : old ≡ c.args.self.now = c.self.view_is in
    let h = subst (IsPopulation valid rules entries) (sym view) c.requires.population in
    let known = subst (λ (p : PopulationSeen _). place < length p.actors) (sym view) c.requires.place in
    let before = c.index_mut-actor.result.now in
    let at = found old.actors place before c.index_mut-actor.ensures.value known in
    let made = c.in_ok-posts.ensures in
    let sound = subst (λ (p : PopulationSeen _). AllByRecursion (IsSound (entry_shape entries) (length p.actors) p.latest) es) (sym view) c.requires.sound in
    let leads = all_leads (entry_shape entries) (length old.actors) old.latest es sound in
    stamp_is valid rules entries old new place es before c.give.new.actor (map plain_post given.posts) given.stamp given.left h at refl made leads a (ap (λ (p : PopulationSeen _). slice_get p.actors place) view ∙ q)
