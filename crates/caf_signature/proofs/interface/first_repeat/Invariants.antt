use Rattle.std.proofs.Common.{take}
use Rattle.caf_signature.specs.Interface.{HaveDifferingInputs}
use Rattle.caf_signature.proofs.interface.first_repeat.Given as goal

abbrev pub invariant-loop-i : goal.invariant-loop-i
invariant-loop-i l = HaveDifferingInputs (take l.i l.signatures)
