use Rattle.std.proofs.Common.{◌≡◌, map, take}
use Rattle.caf_actor.specs.PlainForms.{plain_output}
use Rattle.caf_kinds.specs.Signals.{signalled}
use Rattle.caf_kinds.proofs.signal.Signal.to_all.Given as goal

abbrev pub invariant-loop-place : goal.invariant-loop-place
invariant-loop-place l = map plain_output l.outputs ≡ map (signalled l.self) (take l.place-index l.places)
