use Rattle.std.proofs.Common.{rules, ◌≡◌, ◌<◌, ◌≤◌, ◌+◌, ◌-◌, ◌==◌, ◌∙◌, length, map, take, drop, sym, ap, arith}
use Rattle.std.specs.List.{list_any}
use Rattle.std.proofs.lemmas.List.{length-map}
use Rattle.caf_types.specs.Limits.{latest_stamp}
use Rattle.caf_message.specs.declared.envelope.Envelope.{Envelope}
use Rattle.caf_message.specs.Envelope.{plain_envelope}
use Rattle.caf_driver.specs.Arrivals.{from_sender, has_last}
use Rattle.caf_driver.specs.Runs.{left_past, count_at}
use Rattle.caf_driver.proofs.ArrivalLemmas.{map_at}
use Rattle.caf_driver.proofs.RunsLemmas.{read_at, last_between, offered_enough}
use Rattle.caf_driver.proofs.arrivals.Arrivals.offers_past.Goals as goal

pub returns-clause-offered : goal.returns-clause-offered
returns-clause-offered c =
    let w = c.args.self.now in
    let taken = c.args.taken.now.items in
    let s = c.args.run.sender in
    let n = c.args.run.count in
    let items = c.self.inside.queues.items in
    let q = c.index-queue.result.now in
    let from = c.index-from.result.now in
    let known : s < length items = search rules in
    let at : from_sender w s ≡ map plain_envelope q.items =
    ap (λ v. from_sender v s) (sym c.self.view_is) ∙ map_at (λ x. map plain_envelope x.items) items s q known ∙ ap (λ x. map plain_envelope x.items) (sym c.index-queue.ensures) in
    let queues : length w.queues ≡ length items = sym (ap (λ v. length v.queues) c.self.view_is) ∙ length-map items (λ x. map plain_envelope x.items) in
    let counted : s < length taken = (let same : length taken ≡ length w.queues = c.requires.counts in omega arith) in
    let past : count_at taken s ≡ from = read_at taken s from 0 c.index-from.ensures counted in
    let long : length (from_sender w s) ≡ length q.items = ap length at ∙ length-map q.items plain_envelope in
    let enough : n ≤ length (from_sender w s) - count_at taken s = (let few = c.if-len-from.false in let len = c.len-2.ensures in search rules) in
    let between : has_last (take n (left_past w taken s)) ≡ list_any (λ (e : Envelope). e.stamp == latest_stamp) (take n (drop from q.items)) =
    ap (λ es. has_last (take n (drop (count_at taken s) es))) at ∙ ap (λ k. has_last (take n (drop k (map plain_envelope q.items)))) past ∙ last_between plain_envelope n from q.items in
    let width : from + n - from ≡ n = omega arith in
    let some : has_last (take n (left_past w taken s)) ≡ c.is_at_end_between.result =
    between ∙ ap (λ k. list_any (λ (e : Envelope). e.stamp == latest_stamp) (take k (drop from q.items))) (sym width) ∙ sym c.is_at_end_between.ensures in
    sym (offered_enough w taken c.args.run enough c.is_at_end_between.result some)
