use Rattle.std.proofs.Common.{◌≡◌, length, map}
use Rattle.caf_actor.specs.PlainForms.{plain_output, reached}
use Rattle.caf_actor.specs.Sending.{send_outputs}
use Rattle.caf_actor.proofs.snapshot.Snapshot.send_outputs.Given as goal

abbrev pub invariant-loop-output : goal.invariant-loop-output
invariant-loop-output g l =
    send_outputs (reached l.self l.posts) (map plain_output l.outputs) ≡ send_outputs (reached l.fn.self l.fn.posts) (map plain_output l.fn.outputs)

abbrev pub decreases-loop-output : goal.decreases-loop-output
decreases-loop-output g l = length l.outputs
