use Rattle.std.proofs.Common.{ap, sym, subst, ◌∙◌}
use Rattle.caf_message.specs.Envelope.{plain_envelope}
use Rattle.caf_driver.specs.Places.{is_filled, place_out}
use Rattle.caf_driver.specs.Mail.{arriving_at, HasGiven}
use Rattle.caf_driver.proofs.ArrivalLemmas.{not_filled, is_some_filled}
use Rattle.caf_driver.proofs.MailLemmas.{mail_without, mail_same, places_same, given_waiting, senders_filled}
use Rattle.caf_driver.proofs.mail.Mail.pop.Goals as goal

pub returns-then-is_last-clause-given : goal.returns-then-is_last-clause-given
returns-then-is_last-clause-given c =
    let old = c.args.self.now in
    let new = c.take_first-envelope.new.self in
    let place = c.args.place in
    let e = plain_envelope c.take_first-envelope.result.0 in
    let has = c.take_first-envelope.ensures in
    let offered = c.without_place.result in
    let is = c.without_place.ensures ∙ ap (place_out place) (c.replace-offered.ensures.value ∙ ap (λ w. w.offered) c.self.view_is) in
    let none = not_filled (is_filled (arriving_at new place).senders) _ has.last c.if-is_last.true in
    subst (λ w. HasGiven old place c.args.sender e (record w { offered = offered })) (sym c.self.view_is) (record {
      mail = mail_without old place new has.taken c.requires.mail offered none is;
      places = places_same old place new has.taken;
      own = has.own;
      waiting = given_waiting old place new has.taken c.args.sender e has.popped;
    })

pub returns-else-is_last-clause-given : goal.returns-else-is_last-clause-given
returns-else-is_last-clause-given c =
    let old = c.args.self.now in
    let new = c.take_first-envelope.new.self in
    let place = c.args.place in
    let e = plain_envelope c.take_first-envelope.result.0 in
    let has = c.take_first-envelope.ensures in
    let before = senders_filled (arriving_at old place) c.args.sender (c.requires.mail.arrivals place) c.requires.some in
    let some = is_some_filled (is_filled (arriving_at new place).senders) _ has.last c.if-is_last.false in
    record {
      mail = mail_same old place new has.taken c.requires.mail (before ∙ sym some);
      places = places_same old place new has.taken;
      own = has.own;
      waiting = given_waiting old place new has.taken c.args.sender e has.popped;
    }
