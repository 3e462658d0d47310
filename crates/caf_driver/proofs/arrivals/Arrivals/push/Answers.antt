use Rattle.std.proofs.Common.{◌≡◌, [], ◌∷◌, ◌++◌, ap, sym, subst, ◌∙◌, refl}
use Rattle.caf_message.specs.Envelope.{plain_envelope}
use Rattle.caf_message.specs.declared.envelope.Taken.{Taken}
use Rattle.caf_driver.specs.Places.{is_filled, place_in}
use Rattle.caf_driver.specs.Arrivals.{from_sender, IsArriving}
use Rattle.caf_driver.proofs.ArrivalLemmas.{with_sender, same_arriving, not_filled, empty_of, filled_more, all_more}
use Rattle.caf_driver.proofs.arrivals.Arrivals.push.Goals as goal

pub returns-in_ok-self-inside-clause-arriving : goal.returns-in_ok-self-inside-clause-arriving
returns-in_ok-self-inside-clause-arriving c =
    let mid = c.make_queue.new.self in
    let new = c.put.new.self in
    let sender = c.args.envelope.sender in
    let e = plain_envelope c.args.envelope in
    let made = c.in_ok-make_queue.ensures in
    let has = c.in_ok-put.ensures in
    let h = same_arriving c.args.self.now mid made.same made.senders c.requires in
    let is = c.in_ok-self-inside.ensures ∙ ap (place_in sender) (c.replace-senders.ensures.value ∙ ap (λ w. w.senders) c.self.view_is) in
    let none = empty_of (from_sender mid sender) (not_filled (is_filled (from_sender mid sender)) _ has.alone c.if-branch.true) in
    let all = all_more (λ (x : Taken). x.sender ≡ sender) (from_sender mid sender) e (h.own sender) refl in
    subst (λ w. IsArriving (record w { senders = c.in_ok-self-inside.field-0 })) (sym c.self.view_is)
    (with_sender mid sender (from_sender mid sender ++ e ∷ []) new has.put c.in_ok-self-inside.field-0 is h none (filled_more (from_sender mid sender) e) all)
