use Rattle.caf_kinds.specs.ConductorLaws.{plan_left}
use Rattle.caf_kinds.proofs.conductor.Conductor.tick.Goals as goal

pub invariant_of-self : goal.invariant_of-self
invariant_of-self c = plan_left c.self.inside.identity.peers c.self.inside.script c.tick.new.self c.tick.ensures.left c.self.invariant

pub invariant_of-self-2 : goal.invariant_of-self-2
invariant_of-self-2 c = plan_left c.self.inside.identity.peers c.self.inside.script c.tick.new.self c.tick.ensures.left c.self.invariant

pub invariant_of-self-in_err-append : goal.invariant_of-self-in_err-append
invariant_of-self-in_err-append c = plan_left c.self.inside.identity.peers c.self.inside.script c.tick.new.self c.tick.ensures.left c.self.invariant
