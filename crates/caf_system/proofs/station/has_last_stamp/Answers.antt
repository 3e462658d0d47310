use Rattle.std.proofs.Common.{rules, ◌≡◌, ◌<◌, [], ◌∷◌, map, sym, subst}
use Rattle.std.specs.List.{AllByRecursion}
use Rattle.std.proofs.lemmas.List.{nil_from_length}
use Rattle.caf_types.specs.Limits.{latest_stamp}
use Rattle.caf_message.specs.declared.envelope.Taken.{Taken}
use Rattle.caf_message.specs.Envelope.{plain_envelope}
use Rattle.caf_system.proofs.station.has_last_stamp.Goals as goal

pub loop-envelope-init : goal.loop-envelope-init
loop-envelope-init c = λ h. subst (λ xs. AllByRecursion (λ (e : Taken). e.stamp < latest_stamp) (map plain_envelope xs)) (search rules) h

pub loop-envelope-preserved : goal.loop-envelope-preserved
loop-envelope-preserved c = λ h.
    let step : c.loop-envelope.envelope-iterator.rest.now ≡ c.in-Some.envelope.now ∷ c.next.new.self.rest.now = search rules in
    let less : c.in-Some.envelope.now.stamp < latest_stamp = search rules in
    c.loop-envelope.invariant (subst (λ xs. AllByRecursion (λ (e : Taken). e.stamp < latest_stamp) (map plain_envelope xs)) (sym step) (less, h))

pub returns : goal.returns
returns c = λ no.
    let none : c.loop-envelope.envelope-iterator.rest.now ≡ [] = nil_from_length c.loop-envelope.envelope-iterator.rest.now c.in-None.ensures.steps.0 in
    c.loop-envelope.invariant (subst (λ xs. AllByRecursion (λ (e : Taken). e.stamp < latest_stamp) (map plain_envelope xs)) (sym none) tt)
