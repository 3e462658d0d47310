use Rattle.caf_kinds.specs.Planning.{IsBuiltTo}
use Rattle.caf_kinds.proofs.planning.builder_of.Given as goal

abbrev pub invariant-loop-i : goal.invariant-loop-i
invariant-loop-i l = IsBuiltTo l.i l.types l.values l.builder
