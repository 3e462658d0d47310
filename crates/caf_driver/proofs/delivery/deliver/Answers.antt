use Rattle.std.proofs.Common.{rules, ◌≡◌, ◌==◌, ◌<◌, [], ◌∷◌, ◌++◌, length, map, ap, sym, subst, ◌∙◌}
use Rattle.std.specs.List.{AllByRecursion}
use Rattle.std.proofs.lemmas.List.{append-nil, nil_from_length}
use Rattle.caf_actor.specs.PlainForms.{plain_post}
use Rattle.caf_actor.specs.PlainPost.{PlainPost}
use Rattle.caf_actor.specs.Record.{to_place, when}
use Rattle.caf_driver.specs.Mail.{waiting_in}
use Rattle.caf_driver.proofs.DeliveryLemmas.{one_delivered, when_none}
use Rattle.caf_driver.proofs.delivery.deliver.Goals as goal

pub loop-post-preserved : goal.loop-post-preserved
loop-post-preserved c =
    let inv = c.loop-post.invariant in
    let rest = map plain_post c.next.new.self.rest.items in
    let step : c.loop-post.post-iterator.rest.items ≡ c.in-Some.post ∷ c.next.new.self.rest.items = search rules in
    let here : map plain_post c.loop-post.post-iterator.rest.items ≡ plain_post c.in-Some.post ∷ rest = ap (map plain_post) step in
    let has = c.in_ok-push.ensures in
    let places = subst (λ xs. AllByRecursion (λ (p : PlainPost). p.to < length c.args.mail.now.arrivals) xs) here inv.rest in
    record {
      mail = has.mail;
      places = has.places ∙ inv.places;
      rest = places.1;
      waiting = λ from own.
          let w = inv.waiting from own in
          let owns = subst (λ xs. AllByRecursion (λ (p : PlainPost). p.envelope.sender ≡ from) xs) here w.own in
          record {
            own = owns.1;
            waiting = λ a b.
                one_delivered c.loop-post.mail c.push.new.self from (plain_post c.in-Some.post) rest owns.0 has a b
                ∙ subst (λ xs. waiting_in c.loop-post.mail a b ++ when (a == from) (to_place b xs) ≡ waiting_in c.args.mail.now a b ++ when (a == from) (to_place b (map plain_post c.args.posts))) here (w.waiting a b);
          };
    }

pub returns : goal.returns
returns c = λ from own.
    let inv = c.loop-post.invariant in
    let w = inv.waiting from own in
    let left = c.loop-post.post-iterator.rest in
    let empty : length left.items ≡ 0 = sym left.ok.0 ∙ c.in-None.ensures.steps.0 in
    let none : left.items ≡ [] = nil_from_length left.items empty in
    record {
      mail = inv.mail;
      places = inv.places;
      waiting = λ a b.
          sym (ap (λ xs. waiting_in c.loop-post.mail a b ++ xs) (ap (λ ps. when (a == from) (to_place b (map plain_post ps))) none ∙ when_none (a == from)) ∙ append-nil (waiting_in c.loop-post.mail a b))
          ∙ w.waiting a b;
    }
