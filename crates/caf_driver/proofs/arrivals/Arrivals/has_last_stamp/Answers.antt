use Rattle.std.proofs.Common.{◌<◌, ◌≤◌, ◌==◌, ◌∙◌, length, slice_index_or, subst, sym, ap, map, rules}
use Rattle.std.specs.List.{list_any}
use Rattle.std.proofs.lemmas.List.{take_all}
use Rattle.caf_types.specs.Limits.{latest_stamp}
use Rattle.caf_message.specs.Envelope.{plain_envelope}
use Rattle.caf_message.specs.declared.envelope.Taken.{Taken}
use Rattle.caf_driver.specs.Arrivals.{Arriving, has_last}
use Rattle.caf_driver.proofs.ArrivalLemmas.{any_map, any_found, any_more}
use Rattle.caf_driver.proofs.arrivals.Arrivals.has_last_stamp.Goals as goal

pub loop-queue-preserved : goal.loop-queue-preserved
loop-queue-preserved c =
    let none = any_map plain_envelope (λ (e : Taken). e.stamp == latest_stamp) c.queue-item.result.items ∙ sym c.is_at_end.ensures ∙ c.if-is_at_end.false in
    any_more (λ q. has_last (map plain_envelope q.items)) c.deref-queue-items.result.now c.loop-queue.queue-index c.queue-item.result c.queue-item.is c.loop-queue-test.true c.loop-queue.invariant none

pub returns : goal.returns
returns c =
    let queues = c.self.inside.queues.items in
    let past : length c.deref-queue-items.result.now ≤ c.loop-queue.queue-index = search rules in
    let all = take_all c.loop-queue.queue-index c.deref-queue-items.result.now past in
    sym (ap (λ (w : Arriving). list_any has_last w.queues) (sym c.self.view_is) ∙ any_map (λ q. map plain_envelope q.items) has_last queues
    ∙ ap (list_any (λ q. has_last (map plain_envelope q.items))) (sym c.deref-queue-items.ensures.value ∙ sym all) ∙ c.loop-queue.invariant)

pub returns-then-is_at_end : goal.returns-then-is_at_end
returns-then-is_at_end c =
    let queues = c.self.inside.queues.items in
    let at = c.queue-item.is ∙ ap (λ xs. slice_index_or xs c.loop-queue.queue-index c.queue-item.result) c.deref-queue-items.ensures.value in
    let known = subst (λ xs. c.loop-queue.queue-index < length xs) c.deref-queue-items.ensures.value c.loop-queue-test.true in
    let here = any_map plain_envelope (λ (e : Taken). e.stamp == latest_stamp) c.queue-item.result.items ∙ sym c.is_at_end.ensures ∙ c.if-is_at_end.true in
    sym (ap (λ (w : Arriving). list_any has_last w.queues) (sym c.self.view_is) ∙ any_map (λ q. map plain_envelope q.items) has_last queues ∙ any_found (λ q. has_last (map plain_envelope q.items)) queues c.loop-queue.queue-index c.queue-item.result at known here)
