use Rattle.std.proofs.Common.{◌≡◌, map, take}
use Rattle.std.specs.Arc.{arc_value}
use Rattle.crossbeam_queue.specs.SegTies.{IsSegPassOf}
use Rattle.caf_inbox.specs.Ends.{fresh_lane}
use Rattle.caf_inbox.proofs.MakeLemmas.{reader_with}
use Rattle.caf_inbox.proofs.inbox.Inbox.make.Given as goal

abbrev pub ghosts-lane_for : goal.ghosts-lane_for
ghosts-lane_for g a = record { sender = a.sender }

abbrev pub invariant-loop-sender : goal.invariant-loop-sender
invariant-loop-sender g l = record {
  pass : IsSegPassOf (arc_value l.shared).queue l.pass;
  reader : l.pass.me.view.client ≡ reader_with (take l.sender-index l.senders);
  lanes : l.lanes ≡ map (fresh_lane (arc_value l.shared).queue.web) (take l.sender-index l.senders);
}
