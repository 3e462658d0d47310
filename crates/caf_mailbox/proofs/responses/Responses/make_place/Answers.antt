use Rattle.std.proofs.Common.{◌∙◌, [], ◌∷◌, ◌++◌, None, refl, sym, ap, subst}
use Rattle.caf_mailbox.specs.Order.{AreBelow}
use Rattle.caf_mailbox.specs.Responses.{CachedResponses, Slots, here_in, room_in, AreListed}
use Rattle.caf_mailbox.specs.declared.responses.Slot.{Slot}
use Rattle.caf_mailbox.proofs.ResponseLemmas.{made-listed, indexed-back, new_place, last_place, here-last, room-last}
use Rattle.caf_mailbox.proofs.responses.Responses.make_place.Goals as goal

pub invariant_of-self-in-Ok-insert : goal.invariant_of-self-in-Ok-insert
invariant_of-self-in-Ok-insert c =
    let self = c.self.inside in
    made-listed self.slots.entries c.insert-2.new.self.entries self.by_request.keys c.insert.new.self.keys c.self.invariant c.args.number c.in-Ok-insert.ensures.ordered c.args.request
    (record { request = c.args.request; envelope = None }) refl refl (subst (λ (v : CachedResponses). AreBelow c.args.number v.here) (sym c.self.view_is) c.requires.here)
    (subst (λ (v : CachedResponses). AreBelow c.args.number v.room) (sym c.self.view_is) c.requires.room) c.in-Ok-insert.ensures.entries c.in-Ok-insert.ensures.updates.0 c.in-Ok.ensures.updates.0

pub returns-in-Ok-insert-clause-here : goal.returns-in-Ok-insert-clause-here
returns-in-Ok-insert-clause-here c =
    let ss = c.self.inside.slots.entries in
    let slot : Slot = record { request = c.args.request; envelope = None } in
    let here = subst (λ (v : CachedResponses). AreBelow c.args.number v.here) (sym c.self.view_is) c.requires.here in
    let room = subst (λ (v : CachedResponses). AreBelow c.args.number v.room) (sym c.self.view_is) c.requires.room in
    ap here_in (c.in-Ok-insert.ensures.entries ∙ last_place c.args.number slot ss here room) ∙ here-last ss (c.args.number, slot) refl ∙ ap (λ (v : CachedResponses). v.here) c.self.view_is

pub returns-in-Ok-insert-clause-made : goal.returns-in-Ok-insert-clause-made
returns-in-Ok-insert-clause-made c =
    let ss = c.self.inside.slots.entries in
    let slot : Slot = record { request = c.args.request; envelope = None } in
    let here = subst (λ (v : CachedResponses). AreBelow c.args.number v.here) (sym c.self.view_is) c.requires.here in
    let room = subst (λ (v : CachedResponses). AreBelow c.args.number v.room) (sym c.self.view_is) c.requires.room in
    ap room_in (c.in-Ok-insert.ensures.entries ∙ last_place c.args.number slot ss here room) ∙ room-last ss (c.args.number, slot) refl
    ∙ ap (λ (v : CachedResponses). v.room ++ (c.args.number, c.args.request) ∷ []) c.self.view_is

pub invariant_of-self-in-Err-insert : goal.invariant_of-self-in-Err-insert
invariant_of-self-in-Err-insert c =
    let self = c.self.inside in
    let ss = self.slots.entries in
    let here = subst (λ (v : CachedResponses). AreBelow c.args.number v.here) (sym c.self.view_is) c.requires.here in
    let room = subst (λ (v : CachedResponses). AreBelow c.args.number v.room) (sym c.self.view_is) c.requires.room in
    subst (λ (us : Slots). AreListed us c.remove.new.self.keys) (sym c.in-Err-insert.ensures.err) (record {
      ordered = c.self.invariant.ordered;
      first = c.self.invariant.first;
      numbered = c.self.invariant.numbered;
      indexed =
          indexed-back ss self.by_request.keys c.insert.new.self.keys c.remove.new.self.keys c.args.request c.args.number (new_place c.args.number ss here room) c.in-Ok.ensures.updates.0
          c.remove.ensures.updates.0 c.self.invariant.indexed;
    })
