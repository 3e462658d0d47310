use Rattle.std.proofs.Common.{◌∙◌, sym, ap}
use Rattle.caf_message.specs.Lists.{pick}
use Rattle.caf_mailbox.specs.Arrived.{number_taken, is_to}
use Rattle.caf_mailbox.specs.Responses.{CachedResponses}
use Rattle.caf_mailbox.proofs.ResponseLemmas.{none_to, first_to}
use Rattle.caf_mailbox.proofs.responses.Responses.first_to.Goals as goal

pub returns-in_err-number : goal.returns-in_err-number
returns-in_err-number c =
    let self = c.self.inside in
    c.from_residual.ensures ∙ ap number_taken (sym (none_to self.slots.entries self.by_request.keys c.self.invariant c.args.request c.in_err-number.ensures.none))
    ∙ ap (λ (v : CachedResponses). number_taken (pick (is_to c.args.request) v.here)) c.self.view_is

pub returns-in-Some : goal.returns-in-Some
returns-in-Some c =
    let self = c.self.inside in
    c.number_if_in.ensures ∙ first_to self.slots.entries self.by_request.keys c.self.invariant c.args.request c.in_ok-number.number c.in-Some.slot.now c.in_ok-number.ensures.some (sym c.in-Some.ensures.value)
    ∙ ap (λ (v : CachedResponses). number_taken (pick (is_to c.args.request) v.here)) c.self.view_is
