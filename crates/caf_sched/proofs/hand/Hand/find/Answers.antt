use Rattle.std.proofs.Common.{rules, ◌≡◌, ◌∷◌, length, subst, MatchOption}
use Rattle.caf_sched.specs.Hand.{DrewOne, AllRose, NoneFell, drawn_of, empties_of}
use Rattle.caf_sched.proofs.HandLemmas.{came_back, found, none_fell, made, made_own}
use Rattle.caf_sched.proofs.hand.Hand.find.Goals as goal

pub returns-clause-found : goal.returns-clause-found
returns-clause-found g c =
    let e : length c.steal_one.new.others ≡ length c.self.inside.others.items = search rules in
    rw (came_back c.self.inside.others.len c.steal_one.new.others c.self.inside.others.items e (search rules), ← c.self.view_is) (found c.steal_one.result _ _ _ _ _ _ _ _ c.in_default.ensures.found.0 c.in_default.ensures.found.1
    (subst (λ l. MatchOption c.steal_one.result ((drawn_of c.steal_one.new.others ≡ drawn_of l) × AllRose (empties_of l) (empties_of c.steal_one.new.others)) (DrewOne (drawn_of l) (drawn_of c.steal_one.new.others)))
    c.as_mut_slice.ensures.value c.steal_one.ensures.found))

pub returns-in-Some-clause-counts : goal.returns-in-Some-clause-counts
returns-in-Some-clause-counts g c = rw (← c.self.view_is) (c.draw.ensures.counts, none_fell _)

pub returns-clause-counts : goal.returns-clause-counts
returns-clause-counts g c =
    let e : length c.steal_one.new.others ≡ length c.self.inside.others.items = search rules in
    rw (came_back c.self.inside.others.len c.steal_one.new.others c.self.inside.others.items e (search rules), ← c.self.view_is)
    (c.draw.ensures.counts, subst (λ l. NoneFell (empties_of l) (empties_of c.steal_one.new.others)) c.as_mut_slice.ensures.value c.steal_one.ensures.counts)

pub returns-in-Some-clause-made : goal.returns-in-Some-clause-made
returns-in-Some-clause-made g c = made_own _ c.draw.new.self.drawn c.in-Some.ticket (drawn_of c.self.inside.others.items) (c.draw.new.self.empties ∷ empties_of c.self.inside.others.items) c.in-Some.ensures.found.0

pub returns-clause-made : goal.returns-clause-made
returns-clause-made g c =
    let e : length c.steal_one.new.others ≡ length c.self.inside.others.items = search rules in
    rw (came_back c.self.inside.others.len c.steal_one.new.others c.self.inside.others.items e (search rules))
    (made c.steal_one.result _ _ _ _ _ _ (found c.steal_one.result _ _ _ _ _ _ _ _ c.in_default.ensures.found.0 c.in_default.ensures.found.1
    (subst (λ l. MatchOption c.steal_one.result ((drawn_of c.steal_one.new.others ≡ drawn_of l) × AllRose (empties_of l) (empties_of c.steal_one.new.others)) (DrewOne (drawn_of l) (drawn_of c.steal_one.new.others)))
    c.as_mut_slice.ensures.value c.steal_one.ensures.found)))
