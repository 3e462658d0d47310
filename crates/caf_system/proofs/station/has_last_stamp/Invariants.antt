use Rattle.std.proofs.Common.{◌<◌, map}
use Rattle.std.specs.List.{AllByRecursion}
use Rattle.caf_types.specs.Limits.{latest_stamp}
use Rattle.caf_message.specs.declared.envelope.Taken.{Taken}
use Rattle.caf_message.specs.Envelope.{plain_envelope}
use Rattle.caf_system.proofs.station.has_last_stamp.Given as goal

abbrev pub invariant-loop-envelope : goal.invariant-loop-envelope
invariant-loop-envelope l =
    AllByRecursion (λ (e : Taken). e.stamp < latest_stamp) (map plain_envelope l.envelope-iterator.rest.now)
    → AllByRecursion (λ (e : Taken). e.stamp < latest_stamp) (map plain_envelope l.fn.batch)
