use Rattle.std.proofs.Common.{◌<◌, [], ◌∷◌, ◌++◌, length, map, ap, sym, subst, ◌∙◌}
use Rattle.std.proofs.lemmas.List.{map-append}
use Rattle.caf_message.specs.Envelope.{plain_envelope}
use Rattle.caf_driver.proofs.ArrivalLemmas.{set_queue, queue_before}
use Rattle.caf_driver.proofs.arrivals.Arrivals.put.Goals as goal

pub returns-clause-put : goal.returns-clause-put
returns-clause-put c =
    let items = c.self.inside.queues.items in
    let q = c.index_mut-queue.result.now in
    let known = subst (λ w. c.args.sender < length w.queues) (sym c.self.view_is) c.requires in
    let before = queue_before (λ q. map plain_envelope q.items) items c.args.sender q c.push_back.new.self c.self.inside.senders known c.index_mut-queue.ensures.value in
    let more = ap (map plain_envelope) c.in_ok-push_back.ensures.items ∙ map-append plain_envelope q.items (c.args.envelope ∷ []) ∙ ap (λ es. es ++ plain_envelope c.args.envelope ∷ []) (sym before) in
    rw (← c.self.view_is) (set_queue (λ q. map plain_envelope q.items) items c.args.sender q c.push_back.new.self c.self.inside.senders known c.index_mut-queue.ensures.value _ more)
