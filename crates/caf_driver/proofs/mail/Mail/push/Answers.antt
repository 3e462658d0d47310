use Rattle.std.proofs.Common.{ap, sym, subst, ◌∙◌}
use Rattle.caf_message.specs.Envelope.{plain_envelope}
use Rattle.caf_driver.specs.Places.{is_filled, place_in}
use Rattle.caf_driver.specs.Mail.{arriving_at, HasPosted}
use Rattle.caf_driver.proofs.ArrivalLemmas.{not_filled, is_some_filled}
use Rattle.caf_driver.proofs.MailLemmas.{mail_with, mail_same, places_same, posted_waiting, pushed_filled}
use Rattle.caf_driver.proofs.mail.Mail.push.Goals as goal

pub returns-in_ok-self-inside : goal.returns-in_ok-self-inside
returns-in_ok-self-inside c =
    let old = c.args.self.now in
    let new = c.put.new.self in
    let to = c.args.to in
    let e = plain_envelope c.args.envelope in
    let has = c.in_ok-put.ensures in
    let offered = c.in_ok-self-inside.field-0 in
    let is = c.in_ok-self-inside.ensures ∙ ap (place_in to) (c.replace-offered.ensures.value ∙ ap (λ w. w.offered) c.self.view_is) in
    let none = not_filled (is_filled (arriving_at old to).senders) _ has.first c.if-branch.true in
    let some = pushed_filled (arriving_at old to) (arriving_at new to) e has.put.arriving has.pushed in
    subst (λ w. HasPosted old to e (record w { offered = offered })) (sym c.self.view_is) (record {
      mail = mail_with old to new has.put c.requires.mail offered none some is;
      places = places_same old to new has.put;
      waiting = posted_waiting old to new has.put e has.pushed;
    })

pub returns-else-branch : goal.returns-else-branch
returns-else-branch c =
    let old = c.args.self.now in
    let new = c.put.new.self in
    let to = c.args.to in
    let e = plain_envelope c.args.envelope in
    let has = c.in_ok-put.ensures in
    let before = is_some_filled (is_filled (arriving_at old to).senders) _ has.first c.if-branch.false in
    let some = pushed_filled (arriving_at old to) (arriving_at new to) e has.put.arriving has.pushed in
    record {
      mail = mail_same old to new has.put c.requires.mail (before ∙ sym some);
      places = places_same old to new has.put;
      waiting = posted_waiting old to new has.put e has.pushed;
    }
