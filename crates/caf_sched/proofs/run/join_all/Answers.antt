use Rattle.std.proofs.Common.{rules, ◌≡◌, ◌+◌, ◌++◌, [], ◌∷◌, ◌∙◌}
use Rattle.caf_sched.proofs.CrewLemmas.{hands_more, parts_joined}
use Rattle.caf_sched.proofs.run.join_all.Goals as goal

pub loop-worker-preserved : goal.loop-worker-preserved
loop-worker-preserved g c =
    let more : c.push.new.self.items ≡ c.loop-worker.hands.items ++ c.in-Some.worker.hand ∷ [] = search rules in
    let sum : c.join.new.into.parts ≡ c.loop-worker.seat.parts + c.in-Some.worker.seat.parts = search rules in
    (search rules, parts_joined _ _ _ c.loop-worker.yielded c.in-Some.worker sum c.loop-worker.invariant.1, more ∙ hands_more c.loop-worker.yielded c.in-Some.worker c.loop-worker.hands.items c.loop-worker.invariant.2)
