use Rattle.std.proofs.Common.{rules, ◌≡◌, ◌∷◌}
use Rattle.caf_sched.proofs.HandLemmas.{found, none_fell}
use Rattle.caf_sched.proofs.hand.+steal_one.Goals as goal

pub returns-clause-found : goal.returns-clause-found
returns-clause-found g n c =
    let whole : c.args.others.now ≡ c.in-Some.first.now ∷ c.in-Some.rest.now = search rules in
    rw whole (found c.steal_one.result _ _ _ _ _ _ _ _ c.in_default-draw.ensures.found.0 c.in_default-draw.ensures.found.1 c.steal_one.ensures.found)

pub returns-in-Some-draw-clause-counts : goal.returns-in-Some-draw-clause-counts
returns-in-Some-draw-clause-counts g n c =
    let whole : c.args.others.now ≡ c.in-Some.first.now ∷ c.in-Some.rest.now = search rules in
    rw whole (c.draw.ensures.counts, none_fell _)

pub returns-clause-counts : goal.returns-clause-counts
returns-clause-counts g n c =
    let whole : c.args.others.now ≡ c.in-Some.first.now ∷ c.in-Some.rest.now = search rules in
    rw whole (c.draw.ensures.counts, c.steal_one.ensures.counts)
