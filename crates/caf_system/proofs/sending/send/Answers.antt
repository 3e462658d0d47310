use Rattle.std.proofs.Common.{rules, ◌≡◌, [], ◌∷◌, ◌++◌, length, map, ap, sym, subst, ◌∙◌, append_assoc}
use Rattle.std.specs.List.{AllByRecursion}
use Rattle.std.proofs.lemmas.List.{append-nil, nil_from_length}
use Rattle.caf_message.specs.Entries.{entry_shape}
use Rattle.caf_actor.specs.Leads.{PostFits}
use Rattle.caf_actor.specs.PlainForms.{plain_post}
use Rattle.caf_actor.specs.PlainPost.{PlainPost}
use Rattle.caf_actor.specs.Record.{to_place}
use Rattle.caf_record.proofs.BatchLemmas.{to_append}
use Rattle.caf_system.specs.Station.{AreLanesOf}
use Rattle.caf_system.proofs.SendingLemmas.{none_sent, sent_then, sent_same, own_still}
use Rattle.caf_system.proofs.sending.send.Goals as goal

pub loop-post-init : goal.loop-post-init
loop-post-init g c =
    let same : c.into_iter-post-iterator.result.rest.items ≡ c.args.posts.items = search rules in
    record {
      done = [];
      all = ap (map plain_post) same;
      own = subst (λ xs. AllByRecursion (λ (q : PlainPost). AreLanesOf q.envelope.sender c.args.lanes.now.items) (map plain_post xs)) (sym same) c.requires.own;
      fits = subst (λ xs. AllByRecursion (PostFits (entry_shape g.B.Entries.entries)) (map plain_post xs)) (sym same) c.requires.fits;
      sent = none_sent c.args.lanes.now.items;
    }

pub push-requires-clause-own : goal.push-requires-clause-own
push-requires-clause-own g c =
    let inv = c.loop-post.invariant in
    let p = plain_post c.in-Some.post in
    let rest = map plain_post c.next.new.self.rest.items in
    let step : c.loop-post.post-iterator.rest.items ≡ c.in-Some.post ∷ c.next.new.self.rest.items = search rules in
    let own = subst (λ xs. AllByRecursion (λ (q : PlainPost). AreLanesOf q.envelope.sender c.args.lanes.now.items) xs) (ap (map plain_post) step) inv.own in
    own_still p.envelope.sender c.args.lanes.now.items c.loop-post.lanes.items (λ b. to_place b inv.done) own.0 inv.sent

pub push-requires-clause-fits : goal.push-requires-clause-fits
push-requires-clause-fits g c =
    let step : c.loop-post.post-iterator.rest.items ≡ c.in-Some.post ∷ c.next.new.self.rest.items = search rules in
    (subst (λ xs. AllByRecursion (PostFits (entry_shape g.B.Entries.entries)) xs) (ap (map plain_post) step) c.loop-post.invariant.fits).0

pub loop-post-preserved : goal.loop-post-preserved
loop-post-preserved g c =
    let inv = c.loop-post.invariant in
    let p = plain_post c.in-Some.post in
    let rest = map plain_post c.next.new.self.rest.items in
    let step : c.loop-post.post-iterator.rest.items ≡ c.in-Some.post ∷ c.next.new.self.rest.items = search rules in
    let here : map plain_post c.loop-post.post-iterator.rest.items ≡ p ∷ rest = ap (map plain_post) step in
    record {
      done = inv.done ++ p ∷ [];
      all = append_assoc inv.done (p ∷ []) rest ∙ ap (λ xs. inv.done ++ xs) (sym here) ∙ inv.all;
      own = (subst (λ xs. AllByRecursion (λ (q : PlainPost). AreLanesOf q.envelope.sender c.args.lanes.now.items) xs) here inv.own).1;
      fits = (subst (λ xs. AllByRecursion (PostFits (entry_shape g.B.Entries.entries)) xs) here inv.fits).1;
      sent = sent_same c.args.lanes.now.items c.push.new.lanes.items (λ b. to_place b inv.done ++ to_place b (p ∷ [])) (λ b. to_place b (inv.done ++ p ∷ []))
          (λ b. sym (to_append b inv.done (p ∷ [])))
          (sent_then c.args.lanes.now.items c.loop-post.lanes.items c.push.new.lanes.items (λ b. to_place b inv.done) (λ b. to_place b (p ∷ [])) inv.sent c.in_ok-push.ensures);
    }

pub returns : goal.returns
returns g c =
    let inv = c.loop-post.invariant in
    let left = c.loop-post.post-iterator.rest in
    let empty : length left.items ≡ 0 = sym left.ok.0 ∙ c.in-None.ensures.steps.0 in
    let none : left.items ≡ [] = nil_from_length left.items empty in
    let all : inv.done ≡ map plain_post c.args.posts.items = sym (append-nil inv.done) ∙ ap (λ xs. inv.done ++ map plain_post xs) (sym none) ∙ inv.all in
    sent_same c.args.lanes.now.items c.loop-post.lanes.items (λ b. to_place b inv.done) (λ b. to_place b (map plain_post c.args.posts.items)) (λ b. ap (to_place b) all) inv.sent
