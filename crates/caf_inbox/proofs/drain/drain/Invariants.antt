use Rattle.std.proofs.Common.{◌≢◌, ◌≤◌, [], map}
use Rattle.std.specs.List.{AllByRecursion}
use Rattle.crossbeam_queue.specs.SegTies.{IsSegPassOf}
use Rattle.caf_message.specs.Entries.{entry_shape}
use Rattle.caf_message.specs.Envelope.{plain_envelope, EnvelopeFits}
use Rattle.caf_inbox.specs.Views.{HasTaken}
use Rattle.caf_inbox.proofs.drain.drain.Given as goal

abbrev pub invariant-loop : goal.invariant-loop
invariant-loop g l = record {
  pass : IsSegPassOf l.shared.queue l.ends.pass;
  taken : HasTaken l.fn.ends.pass.me.view.client l.ends.pass.me.view.client (map plain_envelope l.batch);
  fits : AllByRecursion (EnvelopeFits (entry_shape g.E.Entries.entries)) (map plain_envelope l.batch);
  some : l.batch ≢ [];
  count : l.fn.ends.empties ≤ l.ends.empties;
}
