use Rattle.std.proofs.Common.{◌∙◌, ◌∷◌, [], ◌++◌, sym, ap}
use Rattle.std.specs.Prelude.{slice_get}
use Rattle.caf_message.specs.Envelope.{plain_envelope}
use Rattle.caf_mailbox.specs.Responses.{CachedResponses}
use Rattle.caf_mailbox.proofs.ResponseLemmas.{is_place, came-listed, came}
use Rattle.caf_mailbox.proofs.responses.Responses.put_in.Goals as goal

pub unreachable-requires : goal.unreachable-requires
unreachable-requires c =
    let self = c.self.inside in
    is_place self.slots.entries self.slots.entries self.by_request.keys c.self.invariant c.args.number c.args.envelope (ap (λ (v : CachedResponses). slice_get v.room 0) c.self.view_is ∙ c.requires) c.in-None.ensures.value

pub invariant_of-self : goal.invariant_of-self
invariant_of-self c =
    let self = c.self.inside in
    let new = c.get_mut.follows.lender c.fill.new.slot in
    let holds = c.get_mut.follows.holds c.fill.new.slot in
    came-listed self.slots.entries new.entries self.by_request.keys c.self.invariant c.args.number c.args.envelope (ap (λ (v : CachedResponses). slice_get v.room 0) c.self.view_is ∙ c.requires) holds.4 c.in-Some.slot.now c.fill.new.slot
    c.in-Some.ensures.value c.fill.ensures holds.0 (λ some. (holds.3 some).0)

pub returns-clause-here : goal.returns-clause-here
returns-clause-here c =
    let self = c.self.inside in
    let new = c.get_mut.follows.lender c.fill.new.slot in
    let holds = c.get_mut.follows.holds c.fill.new.slot in
    (came self.slots.entries new.entries self.by_request.keys c.self.invariant c.args.number c.args.envelope (ap (λ (v : CachedResponses). slice_get v.room 0) c.self.view_is ∙ c.requires) c.fill.new.slot c.in-Some.slot.now c.fill.ensures
    holds.0).here
    ∙ ap (λ (v : CachedResponses). v.here ++ (c.args.number, plain_envelope c.args.envelope) ∷ []) c.self.view_is

pub returns-clause-room : goal.returns-clause-room
returns-clause-room c =
    let self = c.self.inside in
    let new = c.get_mut.follows.lender c.fill.new.slot in
    let holds = c.get_mut.follows.holds c.fill.new.slot in
    sym (ap (λ (v : CachedResponses). v.room) c.self.view_is)
    ∙ (came self.slots.entries new.entries self.by_request.keys c.self.invariant c.args.number c.args.envelope (ap (λ (v : CachedResponses). slice_get v.room 0) c.self.view_is ∙ c.requires) c.fill.new.slot c.in-Some.slot.now c.fill.ensures
    holds.0).room
