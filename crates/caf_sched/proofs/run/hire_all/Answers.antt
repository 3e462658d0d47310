use Rattle.std.proofs.Common.{rules, ◌≡◌, ◌++◌, [], ◌∷◌}
use Rattle.caf_sched.specs.declared.worker.Worker.{Worker}
use Rattle.caf_sched.proofs.CrewLemmas.{worker_more, one_less}
use Rattle.caf_sched.proofs.run.hire_all.Goals as goal

pub loop-hand-preserved : goal.loop-hand-preserved
loop-hand-preserved g c =
    let worker : Worker g.row.W.Denot = record { number = c.loop-hand.number; seat = c.new-theirs.result; hand = c.in-Some.hand } in
    let more : c.push.new.self.items ≡ c.loop-hand.workers.items ++ worker ∷ [] = search rules in
    let all = worker_more c.args.turns.now c.args.seat.now.opening c.loop-hand.workers.items c.push.new.self.items c.loop-hand.yielded worker more c.loop-hand.invariant.3 c.loop-hand.invariant.4 c.loop-hand.invariant.5 (search rules) in
    (search rules, one_less _ _ _ c.loop-hand.yielded c.in-Some.hand (λ i. (c.split.ensures.old i).parts) c.loop-hand.invariant.1, one_less _ _ _ c.loop-hand.yielded c.in-Some.hand (λ i. (c.split.ensures.old i).splits) c.loop-hand.invariant.2, all.0, all.1, all.2)
