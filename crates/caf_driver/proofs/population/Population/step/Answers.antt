use Rattle.std.proofs.Common.{rules, ◌≡◌, ◌<◌, ◌∙◌, true, length, map, sym, ap, subst}
use Rattle.std.specs.List.{AllByRecursion}
use Rattle.caf_types.specs.Limits.{latest_stamp}
use Rattle.caf_message.specs.declared.envelope.Taken.{Taken}
use Rattle.caf_message.specs.Entries.{entry_shape}
use Rattle.caf_message.specs.Envelope.{plain_envelope}
use Rattle.caf_actor.specs.Drain.{stamp_due}
use Rattle.caf_driver.specs.Mail.{waiting_in}
use Rattle.caf_driver.specs.Delivery.{HasTakenOut}
use Rattle.caf_driver.specs.Population.{PopulationSeen, IsSound, IsPopulation, HasTaken}
use Rattle.caf_driver.specs.Stepping.{MayStep, HasTakenRuns}
use Rattle.caf_driver.proofs.DrivingLemmas.{population_out}
use Rattle.caf_driver.proofs.ListLemmas.{get_less}
use Rattle.caf_driver.proofs.SteppingLemmas.{named_sound, named_early}
use Rattle.caf_driver.proofs.population.Population.step.Goals as goal

pub take-requires-clause-population : goal.take-requires-clause-population
take-requires-clause-population g c =
    let valid = g.B.Behavior.is_valid in
    let meaning = g.B.Behavior.rules in
    let entries = g.B.Entries.entries in
    let place = c.args.place in
    let runs = c.args.runs.now in
    let p : PopulationSeen g.row.B.Denot = record { actors = c.self.inside.actors.items; mail = c.self.inside.mail; latest = c.self.inside.latest; handled = c.self.inside.handled } in
    let view : p ≡ c.args.self.now = c.self.view_is in
    let h = subst (IsPopulation valid meaning entries) (sym view) c.requires.population in
    let yes : c.in_ok-may_step.field-0 ≡ true = search rules in
    let may = subst (λ (q : PopulationSeen _). MayStep q.actors (waiting_in q.mail) place runs) (sym view) (c.in_ok-may_step.ensures.may yes) in
    let left = c.gather.new.mail in
    let named = c.in_ok-batch.ensures.named in
    let out = c.in_ok-batch.ensures.taken in
    let out_named = subst (λ es. HasTakenOut p.mail place es left) named out in
    population_out valid meaning entries p place (map plain_envelope c.in_ok-batch.batch) left h out

pub take-requires-clause-place : goal.take-requires-clause-place
take-requires-clause-place g c =
    let valid = g.B.Behavior.is_valid in
    let meaning = g.B.Behavior.rules in
    let entries = g.B.Entries.entries in
    let place = c.args.place in
    let runs = c.args.runs.now in
    let p : PopulationSeen g.row.B.Denot = record { actors = c.self.inside.actors.items; mail = c.self.inside.mail; latest = c.self.inside.latest; handled = c.self.inside.handled } in
    let view : p ≡ c.args.self.now = c.self.view_is in
    let h = subst (IsPopulation valid meaning entries) (sym view) c.requires.population in
    let yes : c.in_ok-may_step.field-0 ≡ true = search rules in
    let may = subst (λ (q : PopulationSeen _). MayStep q.actors (waiting_in q.mail) place runs) (sym view) (c.in_ok-may_step.ensures.may yes) in
    let left = c.gather.new.mail in
    let named = c.in_ok-batch.ensures.named in
    let out = c.in_ok-batch.ensures.taken in
    let out_named = subst (λ es. HasTakenOut p.mail place es left) named out in
    get_less p.actors place may.actor may.at

pub take-requires-clause-sound : goal.take-requires-clause-sound
take-requires-clause-sound g c =
    let valid = g.B.Behavior.is_valid in
    let meaning = g.B.Behavior.rules in
    let entries = g.B.Entries.entries in
    let place = c.args.place in
    let runs = c.args.runs.now in
    let p : PopulationSeen g.row.B.Denot = record { actors = c.self.inside.actors.items; mail = c.self.inside.mail; latest = c.self.inside.latest; handled = c.self.inside.handled } in
    let view : p ≡ c.args.self.now = c.self.view_is in
    let h = subst (IsPopulation valid meaning entries) (sym view) c.requires.population in
    let yes : c.in_ok-may_step.field-0 ≡ true = search rules in
    let may = subst (λ (q : PopulationSeen _). MayStep q.actors (waiting_in q.mail) place runs) (sym view) (c.in_ok-may_step.ensures.may yes) in
    let left = c.gather.new.mail in
    let named = c.in_ok-batch.ensures.named in
    let out = c.in_ok-batch.ensures.taken in
    let out_named = subst (λ es. HasTakenOut p.mail place es left) named out in
    subst (AllByRecursion (IsSound (entry_shape entries) (length p.actors) p.latest)) (sym named) (named_sound valid meaning entries p place runs h may left out_named)

pub take-requires-clause-stamps : goal.take-requires-clause-stamps
take-requires-clause-stamps g c =
    let valid = g.B.Behavior.is_valid in
    let meaning = g.B.Behavior.rules in
    let entries = g.B.Entries.entries in
    let place = c.args.place in
    let runs = c.args.runs.now in
    let p : PopulationSeen g.row.B.Denot = record { actors = c.self.inside.actors.items; mail = c.self.inside.mail; latest = c.self.inside.latest; handled = c.self.inside.handled } in
    let view : p ≡ c.args.self.now = c.self.view_is in
    let h = subst (IsPopulation valid meaning entries) (sym view) c.requires.population in
    let yes : c.in_ok-may_step.field-0 ≡ true = search rules in
    let may = subst (λ (q : PopulationSeen _). MayStep q.actors (waiting_in q.mail) place runs) (sym view) (c.in_ok-may_step.ensures.may yes) in
    let left = c.gather.new.mail in
    let named = c.in_ok-batch.ensures.named in
    let out = c.in_ok-batch.ensures.taken in
    let out_named = subst (λ es. HasTakenOut p.mail place es left) named out in
    subst (AllByRecursion (λ (e : Taken). e.stamp < latest_stamp)) (sym named) (named_early valid meaning entries p place runs h may left out_named)

pub returns-clause-taken : goal.returns-clause-taken
returns-clause-taken g c =
    let valid = g.B.Behavior.is_valid in
    let meaning = g.B.Behavior.rules in
    let entries = g.B.Entries.entries in
    let place = c.args.place in
    let runs = c.args.runs.now in
    let p : PopulationSeen g.row.B.Denot = record { actors = c.self.inside.actors.items; mail = c.self.inside.mail; latest = c.self.inside.latest; handled = c.self.inside.handled } in
    let view : p ≡ c.args.self.now = c.self.view_is in
    let h = subst (IsPopulation valid meaning entries) (sym view) c.requires.population in
    let yes : c.in_ok-may_step.field-0 ≡ true = search rules in
    let may = subst (λ (q : PopulationSeen _). MayStep q.actors (waiting_in q.mail) place runs) (sym view) (c.in_ok-may_step.ensures.may yes) in
    let left = c.gather.new.mail in
    let named = c.in_ok-batch.ensures.named in
    let out = c.in_ok-batch.ensures.taken in
    let out_named = subst (λ es. HasTakenOut p.mail place es left) named out in
    let new = c.take.new.self in
    let has = c.in_ok-stamp.ensures in
    let taken : HasTakenRuns meaning place runs c.in_ok-stamp.stamp p new = record {
      may = may;
      left = left;
      out = out_named;
      taken = subst (λ es. HasTaken meaning place es (record p { mail = left }) new) named has.taken;
      due = has.stamp may.actor may.at ∙ ap (stamp_due may.actor.snapshot.stamp) named;
    } in
    subst (λ (q : PopulationSeen _). HasTakenRuns meaning place runs c.in_ok-stamp.stamp q new) view taken
