use Rattle.std.proofs.Common.{rules, ◌≡◌, ◌<◌, length, arith, refl, ◌∙◌}
use Rattle.std.specs.Arc.{arc_value}
use Rattle.caf_inbox.proofs.RuleLemmas.{begins}
use Rattle.caf_inbox.proofs.MakeLemmas.{is_new, lane_is, lanes_more, reader_more}
use Rattle.caf_inbox.proofs.inbox.Inbox.make.Goals as goal

pub with_rule-requires : goal.with_rule-requires
with_rule-requires g c = begins

pub lane_for-lane-requires-clause-new : goal.lane_for-lane-requires-clause-new
lane_for-lane-requires-clause-new g c = rw c.loop-sender.invariant.reader (is_new _ _ _ c.requires (search rules) _ (omega arith))

pub loop-sender-preserved : goal.loop-sender-preserved
loop-sender-preserved g c =
    let within : c.loop-sender.sender-index < length c.args.senders.now = search rules in
    let same : c.lane_for-lane.result.web ≡ (arc_value c.in-Ok.shared).queue.web = search rules in
    record {
      pass = search rules;
      reader = reader_more _ _ _ _ _ _ within refl c.loop-sender.invariant.reader c.lane_for-lane.ensures.views.0;
      lanes = c.in_ok-push.ensures.added ∙ lanes_more _ _ _ _ _ _ within c.loop-sender.invariant.lanes (lane_is _ _ _ _ same c.lane_for-lane.ensures.views.1);
    }
