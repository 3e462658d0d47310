use Rattle.std.proofs.Common.{[], ◌∷◌, map, ap, sym, subst, ◌∙◌}
use Rattle.std.proofs.lemmas.List.{map-append}
use Rattle.caf_message.specs.Envelope.{plain_envelope}
use Rattle.caf_driver.specs.Delivery.{HasTakenOut}
use Rattle.caf_driver.proofs.DeliveryLemmas.{one_taken, some_last}
use Rattle.caf_driver.proofs.collecting.collect.Goals as goal

pub loop-sender-preserved : goal.loop-sender-preserved
loop-sender-preserved g c =
    let added = c.in_ok-push.ensures.added in
    let es = map plain_envelope c.loop-sender.batch in
    let same = ap (map plain_envelope) added ∙ map-append plain_envelope c.loop-sender.batch (c.pop.result ∷ []) in
    let taken = one_taken c.args.mail.now c.loop-sender.mail c.pop.new.self c.args.place c.in-Some.sender es (plain_envelope c.pop.result) c.loop-sender.invariant.0 c.pop.ensures.given in
    (subst (λ xs. HasTakenOut c.args.mail.now c.args.place xs c.pop.new.self) (sym same) taken, λ none. absurd (some_last c.loop-sender.batch c.pop.result (sym added ∙ none)))
