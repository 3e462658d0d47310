use Rattle.std.proofs.Common.{ap, length, ◌∙◌, arith}
use Rattle.caf_kinds.proofs.PlanningLemmas.{places_length}
use Rattle.caf_kinds.proofs.starting.conductor.Goals as goal

pub new-requires-clause-few : goal.new-requires-clause-few
new-requires-clause-few c =
    let long = ap length c.in_ok-peers.ensures ∙ places_length 1 _ in
    let count = c.len.ensures in
    let few = c.requires.few in
    omega (arith, long, count, few)
