use Rattle.std.proofs.Common.{◌∙◌, sym, ap}
use Rattle.caf_mailbox.specs.Responses.{CachedResponses, room_in}
use Rattle.caf_mailbox.proofs.ResponseLemmas.{gone-listed, taken_none, taken_some, no_free_at, no_room_left}
use Rattle.caf_mailbox.proofs.responses.Responses.take.Goals as goal

pub returns-in_err-slot-clause-taken : goal.returns-in_err-slot-clause-taken
returns-in_err-slot-clause-taken c = λ test is.
    rw c.from_residual-in_err-slot.ensures
    (taken_none c.self.inside.slots.entries c.args.self.now.here test c.in_ok-number.number c.args.found c.self.invariant.ordered (ap (λ (v : CachedResponses). v.here) c.self.view_is) c.in_ok-number.was is
    c.in_err-slot.ensures.value)

pub invariant_of-self-in_err-envelope : goal.invariant_of-self-in_err-envelope
invariant_of-self-in_err-envelope c =
    let self = c.self.inside in
    gone-listed self.slots.entries c.remove.new.self.entries self.by_request.keys c.remove-2.new.self.keys c.self.invariant c.in_ok-number.number c.in_ok-slot.ensures.ordered c.in_ok-slot.slot
    (sym c.in_ok-slot.ensures.value) c.in_ok-slot.ensures.entries c.in_ok-slot.ensures.updates.0 c.remove-2.ensures.updates.0

pub returns-in_err-envelope-clause-taken : goal.returns-in_err-envelope-clause-taken
returns-in_err-envelope-clause-taken c =
    absurd (no_free_at c.self.inside.slots.entries c.in_ok-number.number c.in_ok-slot.slot (ap (λ (v : CachedResponses). v.room) c.self.view_is ∙ c.requires)
    (sym c.in_ok-slot.ensures.value) c.in_err-envelope.was)

pub returns-in_err-envelope-clause-kept : goal.returns-in_err-envelope-clause-kept
returns-in_err-envelope-clause-kept c =
    absurd (no_free_at c.self.inside.slots.entries c.in_ok-number.number c.in_ok-slot.slot (ap (λ (v : CachedResponses). v.room) c.self.view_is ∙ c.requires)
    (sym c.in_ok-slot.ensures.value) c.in_err-envelope.was)

pub returns-in_err-envelope-clause-room : goal.returns-in_err-envelope-clause-room
returns-in_err-envelope-clause-room c =
    absurd (no_free_at c.self.inside.slots.entries c.in_ok-number.number c.in_ok-slot.slot (ap (λ (v : CachedResponses). v.room) c.self.view_is ∙ c.requires)
    (sym c.in_ok-slot.ensures.value) c.in_err-envelope.was)

pub invariant_of-self-2 : goal.invariant_of-self-2
invariant_of-self-2 c =
    let self = c.self.inside in
    gone-listed self.slots.entries c.remove.new.self.entries self.by_request.keys c.remove-2.new.self.keys c.self.invariant c.in_ok-number.number c.in_ok-slot.ensures.ordered c.in_ok-slot.slot
    (sym c.in_ok-slot.ensures.value) c.in_ok-slot.ensures.entries c.in_ok-slot.ensures.updates.0 c.remove-2.ensures.updates.0

pub returns-clause-taken : goal.returns-clause-taken
returns-clause-taken c = λ test is.
    taken_some c.self.inside.slots.entries c.remove.new.self.entries c.args.self.now.here test c.in_ok-number.number c.args.found c.in_ok-slot.slot c.in_ok-envelope.envelope c.self.invariant.ordered
    (ap (λ (v : CachedResponses). v.here) c.self.view_is) c.in_ok-number.was is c.in_ok-slot.ensures.value c.in_ok-envelope.was c.in_ok-slot.ensures.entries

pub returns-clause-room : goal.returns-clause-room
returns-clause-room c =
    ap room_in c.in_ok-slot.ensures.entries ∙ no_room_left _ c.self.inside.slots.entries (ap (λ (v : CachedResponses). v.room) c.self.view_is ∙ c.requires)
