use Rattle.std.proofs.Common.{[]}
use Rattle.caf_events.proofs.queue.EventQueue.of_value.Goals as goal

pub returns : goal.returns
returns c = c.in_ok-save_value.ensures.after [] c.new-queue.ensures
