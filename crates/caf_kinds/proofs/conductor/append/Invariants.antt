use Rattle.std.proofs.Common.{◌≡◌, ◌++◌}
use Rattle.caf_kinds.proofs.conductor.append.Given as goal

-- what was added, and what is yet to be
abbrev pub invariant-loop-output : goal.invariant-loop-output
invariant-loop-output l = l.outputs ++ l.output-iterator.rest.items ≡ l.initial.outputs ++ l.fn.more
