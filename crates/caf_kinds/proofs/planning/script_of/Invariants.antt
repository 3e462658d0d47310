use Rattle.caf_kinds.specs.Planning.{PlannedSoFar}
use Rattle.caf_kinds.proofs.planning.script_of.Given as goal

abbrev pub invariant-loop-before : goal.invariant-loop-before
invariant-loop-before l = PlannedSoFar l.places l.steps l.before l.script
