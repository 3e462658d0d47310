use Rattle.std.proofs.Common.{◌∙◌, length, sym, ap}
use Rattle.caf_mailbox.specs.Responses.{CachedResponses, here_in}
use Rattle.caf_mailbox.proofs.ResponseLemmas.{last-listed, last_is_free, here-last, room-fewer}
use Rattle.caf_mailbox.proofs.responses.Responses.give_up_last.Goals as goal

pub invariant_of-self : goal.invariant_of-self
invariant_of-self c =
    let self = c.self.inside in
    let new = c.pop_last.new.self in
    let free = last_is_free self.slots.entries new.entries (c.in-Some.number, c.in-Some.slot) c.if-not-is_last_free.ensures.free c.in-Some.ensures.removal in
    last-listed self.slots.entries new.entries self.by_request.keys c.strike_out.new.by_request.keys c.self.invariant c.in-Some.number c.in-Some.ensures.ordered c.in-Some.slot free c.in-Some.ensures.value c.in-Some.ensures.removal
    c.in-Some.ensures.updates.0 c.strike_out.ensures

pub returns-in-Some-clause-here : goal.returns-in-Some-clause-here
returns-in-Some-clause-here c =
    let self = c.self.inside in
    let new = c.pop_last.new.self in
    let free = last_is_free self.slots.entries new.entries (c.in-Some.number, c.in-Some.slot) c.if-not-is_last_free.ensures.free c.in-Some.ensures.removal in
    sym (ap here_in c.in-Some.ensures.removal ∙ here-last new.entries (c.in-Some.number, c.in-Some.slot) free) ∙ ap (λ (v : CachedResponses). v.here) c.self.view_is

pub returns-in-Some-clause-fewer : goal.returns-in-Some-clause-fewer
returns-in-Some-clause-fewer c =
    let self = c.self.inside in
    let new = c.pop_last.new.self in
    let free = last_is_free self.slots.entries new.entries (c.in-Some.number, c.in-Some.slot) c.if-not-is_last_free.ensures.free c.in-Some.ensures.removal in
    sym (ap (λ (v : CachedResponses). length v.room) c.self.view_is) ∙ room-fewer self.slots.entries new.entries (c.in-Some.number, c.in-Some.slot) free c.in-Some.ensures.removal
