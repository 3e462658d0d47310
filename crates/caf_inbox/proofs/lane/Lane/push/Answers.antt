use Rattle.std.proofs.Common.{rules}
use Rattle.caf_inbox.proofs.RuleLemmas.{pushes, is_lane_pushed, is_lane_same}
use Rattle.caf_inbox.proofs.lane.Lane.push.Goals.{in-Ok, in-Err}
use Rattle.caf_inbox.proofs.lane.Lane.push.Goals as goal

pub push_as-requires-clause-rule : goal.push_as-requires-clause-rule
push_as-requires-clause-rule g c = λ n. pushes _ _ _ _ c.self.invariant.1 (search rules)

pub invariant_of-self : goal.invariant_of-self
invariant_of-self g c =
    let v = c.self.inside.pass.me.view.client in
    let u = c.push_as.new.pass.me.view.client in
    let is = c.self.invariant in
    elim c.match-push_as.branch [
      | in-Ok w ↦ let lane = is_lane_pushed _ v u _ w.in-Ok.ensures.rule.0 is.1 is.2 is.3 in (search rules, lane.0, lane.1, lane.2)
      | in-Err w ↦ let lane = is_lane_same _ v u w.in-Err.ensures.rule.1 is.1 is.2 is.3 in (search rules, lane.0, lane.1, lane.2)
    ]
