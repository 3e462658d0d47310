use Rattle.std.proofs.Common.{◌≡◌, ◌-◌, ◌==◌, false, take, drop}
use Rattle.std.specs.List.{list_any}
use Rattle.caf_types.specs.Limits.{latest_stamp}
use Rattle.caf_message.specs.declared.envelope.Envelope.{Envelope}
use Rattle.caf_driver.proofs.arrivals.is_at_end_between.Given as goal

abbrev pub invariant-loop-i : goal.invariant-loop-i
invariant-loop-i l = list_any (λ (e : Envelope). e.stamp == latest_stamp) (take (l.i - l.fn.from) (drop l.fn.from l.fn.queue.items)) ≡ false
