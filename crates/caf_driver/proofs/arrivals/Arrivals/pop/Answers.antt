use Rattle.std.proofs.Common.{◌≡◌, ◌+◌, ap, sym, subst, ◌∙◌}
use Rattle.std.specs.List.{AllByRecursion}
use Rattle.caf_message.specs.declared.envelope.Taken.{Taken}
use Rattle.caf_driver.specs.Places.{is_filled, place_out}
use Rattle.caf_driver.specs.Arrivals.{from_sender, length_of, IsArriving}
use Rattle.caf_driver.proofs.ArrivalLemmas.{without_sender, fewer_of, not_filled}
use Rattle.caf_driver.proofs.arrivals.Arrivals.pop.Goals as goal

pub returns-then-is_last-clause-arriving : goal.returns-then-is_last-clause-arriving
returns-then-is_last-clause-arriving c =
    let old = c.args.self.now in
    let new = c.take_first-envelope.new.self in
    let sender = c.args.sender in
    let has = c.take_first-envelope.ensures in
    let own = subst (λ es. AllByRecursion (λ (e : Taken). e.sender ≡ sender) es) has.first (c.requires.arriving.own sender) in
    let is = c.without_place.ensures ∙ ap (place_out sender) (c.replace-senders.ensures.value ∙ ap (λ w. w.senders) c.self.view_is) in
    let none = not_filled (is_filled (from_sender new sender)) _ has.last c.if-is_last.true in
    subst (λ w. IsArriving (record w { senders = c.without_place.result })) (sym c.self.view_is)
    (without_sender old sender (from_sender new sender) new has.rest c.without_place.result is c.requires.arriving none own.1)

pub returns-then-is_last-clause-fewer : goal.returns-then-is_last-clause-fewer
returns-then-is_last-clause-fewer c =
    let has = c.take_first-envelope.ensures in
    ap (λ w. length_of w.queues + 1) c.self.view_is ∙ ap (λ qs. length_of qs + 1) has.rest.queues ∙ fewer_of _ _ _ _ has.first

pub returns-else-is_last-clause-fewer : goal.returns-else-is_last-clause-fewer
returns-else-is_last-clause-fewer c =
    let has = c.take_first-envelope.ensures in
    ap (λ qs. length_of qs + 1) has.rest.queues ∙ fewer_of _ _ _ _ has.first
