use Rattle.caf_kinds.specs.ConductorLaws.{plan_left}
use Rattle.caf_kinds.proofs.conductor.Conductor.begin.Goals as goal

pub invariant_of-self : goal.invariant_of-self
invariant_of-self c = plan_left c.self.inside.identity.peers c.self.inside.script c.go_on.new.self c.go_on.ensures.left c.self.invariant

pub invariant_of-self-2 : goal.invariant_of-self-2
invariant_of-self-2 c = plan_left c.self.inside.identity.peers c.self.inside.script c.go_on.new.self c.go_on.ensures.left c.self.invariant
