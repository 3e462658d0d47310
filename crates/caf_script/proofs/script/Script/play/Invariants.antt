use Rattle.std.proofs.Common.{◌≡◌, ◌+◌, [], length, map}
use Rattle.caf_actor.specs.PlainForms.{plain_output}
use Rattle.caf_script.specs.Script.{play, IsLeft}
use Rattle.caf_script.proofs.script.Script.play.Given as goal

-- playing the steps that are left gives what playing all of them gives
abbrev pub invariant-loop-turn : goal.invariant-loop-turn
invariant-loop-turn l =
    (play l.self.plan l.self (map plain_output l.outputs) ≡ play l.initial.self.plan l.initial.self [])
    × (length l.self.plan + l._turn ≡ length l.initial.self.plan)
    × IsLeft l.initial.self l.self
