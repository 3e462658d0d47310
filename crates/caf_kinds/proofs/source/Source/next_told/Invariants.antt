use Rattle.std.proofs.Common.{◌≡◌, ◌-◌, take, drop, map}
use Rattle.caf_actor.specs.PlainForms.{plain_output}
use Rattle.caf_kinds.specs.Source.{tells_all}
use Rattle.caf_kinds.proofs.source.Source.next_told.Given as goal

abbrev pub invariant-loop-number : goal.invariant-loop-number
invariant-loop-number l = map plain_output l.outputs ≡ map (tells_all l.self) (take (l.number - l.self.told) (drop l.self.told l.self.chunks))
