use Rattle.std.proofs.Common.{◌∙◌, ap}
use Rattle.caf_mailbox.specs.Responses.{CachedResponses, first_number}
use Rattle.caf_mailbox.proofs.ResponseLemmas.{first_is}
use Rattle.caf_mailbox.proofs.responses.Responses.first_here.Goals as goal

pub returns-in-Some : goal.returns-in-Some
returns-in-Some c =
    c.number_if_in.ensures ∙ first_is c.self.inside.slots.entries c.in-Some.number.now c.in-Some.slot.now c.self.invariant.first c.in-Some.ensures.first
    ∙ ap (λ (v : CachedResponses). first_number v.here) c.self.view_is
