use Rattle.std.proofs.Common.{◌≡◌, ◌++◌, map, take}
use Rattle.caf_actor.specs.PlainForms.{plain_output}
use Rattle.caf_scripted.specs.Scripted.{signal_output}
use Rattle.caf_scripted.proofs.scripted.signal_all.Given as goal

abbrev pub invariant-loop-to : goal.invariant-loop-to
invariant-loop-to l = map plain_output l.outputs ≡ map plain_output l.fn.outputs ++ map (signal_output l.signal) (take l.to-index l.places)
