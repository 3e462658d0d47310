use Rattle.std.proofs.Common.{◌≡◌, ◌<◌, ◌^◌, drop, map}
use Rattle.std.specs.List.{AllByRecursion}
use Rattle.caf_message.specs.declared.envelope.Taken.{Taken}
use Rattle.caf_message.specs.Envelope.{plain_envelope}
use Rattle.caf_actor.specs.Drain.{greatest_stamp}
use Rattle.caf_actor.proofs.drain.stamp_due.Given as goal

abbrev pub invariant-loop-envelope : goal.invariant-loop-envelope
invariant-loop-envelope l = record {
  same : greatest_stamp l.greatest (map plain_envelope (drop l.envelope-index l.batch)) ≡ greatest_stamp l.fn.stamp (map plain_envelope l.fn.batch);
  low : l.greatest < 2 ^ 40;
  lows : AllByRecursion (λ (e : Taken). e.stamp < 2 ^ 40) (map plain_envelope (drop l.envelope-index l.batch));
}
