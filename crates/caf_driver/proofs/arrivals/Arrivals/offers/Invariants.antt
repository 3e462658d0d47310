use Rattle.std.proofs.Common.{◌≡◌, length, take, drop}
use Rattle.caf_driver.specs.Arrivals.{from_sender}
use Rattle.caf_driver.specs.Runs.{are_offered, left_past, HasCounts}
use Rattle.caf_driver.proofs.RunsLemmas.{names_some}
use Rattle.caf_driver.proofs.arrivals.Arrivals.offers.Given as goal

abbrev pub invariant-loop-run : goal.invariant-loop-run
invariant-loop-run l = record {
  counts : length l.taken.items ≡ length l.fn.self.queues;
  bound : HasCounts l.fn.self l.taken.items;
  rest : are_offered (from_sender l.fn.self) l.runs ≡ are_offered (left_past l.fn.self l.taken.items) (drop l.run-index l.runs);
  named : l.has_some ≡ names_some (take l.run-index l.runs);
}
