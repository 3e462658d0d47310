use Rattle.std.proofs.Common.{◌≡◌, length}
use Rattle.caf_json.specs.Digits.{unhex}
use Rattle.caf_json.proofs.DigitsLoopLemmas.{behind}
use Rattle.caf_json.proofs.digits.bytes_of_digits.Given as goal

abbrev pub invariant-loop-rest : goal.invariant-loop-rest
invariant-loop-rest l = behind l.bytes.items (unhex l.rest) ≡ unhex l.digits

abbrev pub decreases-loop-rest : goal.decreases-loop-rest
decreases-loop-rest l = length l.rest
