use Rattle.std.proofs.Common.{rules, ◌<◌, ◌∷◌, length, map, ap, sym, subst, ◌∙◌}
use Rattle.caf_message.specs.Envelope.{plain_envelope}
use Rattle.caf_driver.proofs.ArrivalLemmas.{set_queue, queue_before, queue_after, known_of, empty_filled}
use Rattle.caf_driver.proofs.arrivals.Arrivals.take_first.Goals as goal

pub returns-clause-first : goal.returns-clause-first
returns-clause-first c =
    let items = c.self.inside.queues.items in
    let q = c.index_mut-queue.result.now in
    let known = subst (λ w. c.args.sender < length w.queues) (sym c.self.view_is) (known_of c.args.self.now.queues c.args.sender c.requires) in
    let before = queue_before (λ q. map plain_envelope q.items) items c.args.sender q c.pop_front.new.self c.self.inside.senders known c.index_mut-queue.ensures.value in
    let after = queue_after (λ q. map plain_envelope q.items) items c.args.sender q c.pop_front.new.self c.self.inside.senders known c.index_mut-queue.ensures.value in
    rw (← c.self.view_is) (before ∙ ap (map plain_envelope) c.in-Some.ensures.items ∙ ap (λ es. plain_envelope c.in-Some.envelope ∷ es) (sym after))

pub returns-clause-rest : goal.returns-clause-rest
returns-clause-rest c =
    let items = c.self.inside.queues.items in
    let q = c.index_mut-queue.result.now in
    let known = subst (λ w. c.args.sender < length w.queues) (sym c.self.view_is) (known_of c.args.self.now.queues c.args.sender c.requires) in
    let after = queue_after (λ q. map plain_envelope q.items) items c.args.sender q c.pop_front.new.self c.self.inside.senders known c.index_mut-queue.ensures.value in
    rw (← c.self.view_is) (set_queue (λ q. map plain_envelope q.items) items c.args.sender q c.pop_front.new.self c.self.inside.senders known c.index_mut-queue.ensures.value _ (sym after))

pub returns-clause-last : goal.returns-clause-last
returns-clause-last c =
    let items = c.self.inside.queues.items in
    let q = c.index_mut-queue.result.now in
    let known = subst (λ w. c.args.sender < length w.queues) (sym c.self.view_is) (known_of c.args.self.now.queues c.args.sender c.requires) in
    let after = queue_after (λ q. map plain_envelope q.items) items c.args.sender q c.pop_front.new.self c.self.inside.senders known c.index_mut-queue.ensures.value in
    let empty = empty_filled plain_envelope c.pop_front.new.self.items in
    rw after (rw empty (search rules))
