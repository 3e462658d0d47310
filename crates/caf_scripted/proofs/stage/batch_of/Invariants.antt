use Rattle.std.proofs.Common.{◌<◌, map}
use Rattle.std.specs.List.{AllByRecursion}
use Rattle.caf_types.specs.Table.{built_in, shape_at}
use Rattle.caf_message.specs.declared.envelope.Taken.{Taken}
use Rattle.caf_message.specs.Envelope.{plain_envelope, EnvelopeFits}
use Rattle.caf_scripted.proofs.stage.batch_of.Given as goal

abbrev pub invariant-loop-i : goal.invariant-loop-i
invariant-loop-i l = record {
  fits : AllByRecursion (EnvelopeFits (shape_at built_in)) (map plain_envelope l.batch);
  stamps : AllByRecursion (λ (e : Taken). e.stamp < 1099511627776) (map plain_envelope l.batch);
}
