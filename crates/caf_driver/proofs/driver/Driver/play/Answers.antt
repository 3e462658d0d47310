use Rattle.std.proofs.Common.{◌≡◌, ◌≤◌, ◌+◌, ◌∙◌, ℕ, false, subst, sym, ap, refl, rules}
use Rattle.caf_types.specs.Limits.{latest_stamp}
use Rattle.caf_message.specs.Envelope.{from_outside}
use Rattle.caf_driver.specs.Mail.{waiting_in, HasPosted}
use Rattle.caf_driver.specs.Population.{PopulationSeen}
use Rattle.caf_driver.specs.Opening.{stamp_due}
use Rattle.caf_driver.specs.Driving.{DriverSeen, state_of}
use Rattle.caf_driver.proofs.DrivingLemmas.{settled_of}
use Rattle.caf_driver.proofs.LegalLemmas.{legal_driven}
use Rattle.caf_driver.proofs.PlayLemmas.{spoken_low, driving_spoken, has_spoken, starts_at_zero, idle_of, due_of}
use Rattle.caf_driver.proofs.SpokenLemmas.{spoken_driven}
use Rattle.caf_driver.proofs.TurnedLemmas.{few_of}
use Rattle.caf_driver.proofs.driver.Driver.play.Goals as goal

pub overflow_add-self : goal.overflow_add-self
overflow_add-self g c =
    let valid = g.B.Behavior.is_valid in
    let meaning = g.B.Behavior.rules in
    let entries = g.B.Entries.entries in
    let before = c.self.inside.population in
    let view = c.self.view_is in
    let d = state_of c.args.self.now in
    let driving = c.self.invariant c.if-self.false in
    let same : d.spoken ≡ c.self.inside.spoken = ap (λ (x : DriverSeen _). x.spoken) (sym view) in
    let waits : (a b : ℕ) → d.waiting a b ≡ waiting_in before.mail a b = λ a b. ap (λ (x : DriverSeen _). waiting_in x.mail a b) (sym view) in
    let low : c.self.inside.spoken ≤ latest_stamp = spoken_low valid meaning entries before c.self.inside.spoken driving d c.args.notice c.requires same waits in
    search rules

pub invariant_of-self-2 : goal.invariant_of-self-2
invariant_of-self-2 g c = λ kept.
    let valid = g.B.Behavior.is_valid in
    let meaning = g.B.Behavior.rules in
    let entries = g.B.Entries.entries in
    let before = c.self.inside.population in
    let view = c.self.view_is in
    let d = state_of c.args.self.now in
    let driving = c.self.invariant c.if-self.false in
    let same : d.spoken ≡ c.self.inside.spoken = ap (λ (x : DriverSeen _). x.spoken) (sym view) in
    let waits : (a b : ℕ) → d.waiting a b ≡ waiting_in before.mail a b = λ a b. ap (λ (x : DriverSeen _). waiting_in x.mail a b) (sym view) in
    let posted = subst (λ e. HasPosted before.mail 0 e c.notify.new.self.mail) c.envelope_of-envelope.ensures c.in_ok-notify.ensures.posted in
    driving_spoken valid meaning entries before c.self.inside.spoken driving d c.args.notice c.requires same waits c.notify.new.self c.next_stamp-stamp.result c.next_stamp-stamp.ensures c.in_ok-notify.ensures.population posted

pub returns-clause-driven : goal.returns-clause-driven
returns-clause-driven g c = λ start driven.
    let valid = g.B.Behavior.is_valid in
    let meaning = g.B.Behavior.rules in
    let entries = g.B.Entries.entries in
    let before = c.self.inside.population in
    let view = c.self.view_is in
    let d = state_of c.args.self.now in
    let driving = c.self.invariant c.if-self.false in
    let same : d.spoken ≡ c.self.inside.spoken = ap (λ (x : DriverSeen _). x.spoken) (sym view) in
    let waits : (a b : ℕ) → d.waiting a b ≡ waiting_in before.mail a b = λ a b. ap (λ (x : DriverSeen _). waiting_in x.mail a b) (sym view) in
    let what = c.args.notice in
    let after = c.notify.new.self in
    let actors = ap (λ (x : DriverSeen _). x.actors) (sym view) in
    let stamp = stamp_due d.spoken d.actors in
    let due : c.next_stamp-stamp.result ≡ stamp = c.next_stamp-stamp.ensures ∙ ap (λ (x : DriverSeen _). stamp_due x.spoken x.actors) view in
    let envelope = c.envelope_of-envelope.ensures ∙ ap (λ n. from_outside n c.next_stamp-stamp.result what) (sym same) ∙ ap (λ n. from_outside d.spoken n what) due in
    let posted = subst (λ e. HasPosted before.mail 0 e after.mail) envelope c.in_ok-notify.ensures.posted in
    let settled = settled_of valid meaning entries d before driving.population actors in
    let spoken = ap (λ n. n + 1) (sym same) in
    let said = has_spoken d _ what stamp c.requires spoken c.is_stop-self-inside.ensures before after actors (ap (λ (p : PopulationSeen _). p.actors) c.in_ok-notify.ensures.same ∙ sym actors) waits (λ a b. refl) posted in
    spoken_driven meaning start d _ what stamp (few_of meaning start d settled) c.requires said
    (starts_at_zero valid meaning entries before c.self.inside.spoken driving d what c.requires same waits)
    (due_of meaning start d settled)
    (λ some. idle_of meaning start d settled) driven

pub returns-clause-legal : goal.returns-clause-legal
returns-clause-legal g c = λ start driven.
    let meaning = g.B.Behavior.rules in
    let after = c.notify.new.self in
    let now : DriverSeen g.row.B.Denot = record { actors = after.actors; mail = after.mail; spoken = c.self.inside.spoken + 1; has_stopped = c.is_stop-self-inside.result; is_broken = false } in
    let settled = settled_of g.B.Behavior.is_valid meaning g.B.Entries.entries (state_of now) after c.in_ok-notify.ensures.population refl in
    legal_driven meaning start (state_of now) (few_of meaning start (state_of now) settled) (returns-clause-driven g c start driven)
