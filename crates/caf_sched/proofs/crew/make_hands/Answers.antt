use Rattle.std.proofs.Common.{rules, ◌≡◌, ◌+◌, ◌++◌, [], ◌∷◌, length, replicate, All, ap, ◌∙◌, sym, subst}
use Rattle.std.proofs.lemmas.List.Elements.{All-take}
use Rattle.caf_sched.specs.Ends.{new_own}
use Rattle.caf_sched.specs.Hand.{new_hand}
use Rattle.caf_sched.proofs.HandLemmas.{one_hand_more, all_same}
use Rattle.caf_sched.proofs.crew.make_hands.Goals as goal

pub loop-own-preserved : goal.loop-own-preserved
loop-own-preserved c =
    let more : c.push.new.self.items ≡ c.loop-own.hands.items ++ c.new.result ∷ [] = search rules in
    let count : length c.in_ok-others.others.items + 1 ≡ length c.args.owns.items = search rules in
    (search rules, subst (All (λ o. o ≡ new_own)) (sym c.pop.ensures.rest) (All-take (λ o. o ≡ new_own) _ _ c.loop-own.invariant.1), rw more (one_hand_more _ _ c.new.result c.loop-own.hands.items c.loop-own.invariant.2 c.new.ensures count))

pub returns : goal.returns
returns c =
    let e : length c.loop-own.hands.items ≡ length c.args.owns.items = search rules in
    all_same (new_hand (length c.args.owns.items)) _ c.loop-own.invariant.2 ∙ ap (λ n. replicate n (new_hand (length c.args.owns.items))) e
