use Rattle.std.proofs.Common.{◌≡◌, ◌++◌, map}
use Rattle.caf_actor.specs.PlainForms.{plain_output}
use Rattle.caf_kinds.specs.Held.{held_view, delivered}
use Rattle.caf_kinds.proofs.held.delivered.Given as goal

-- what was delivered, and what is yet to be
abbrev pub invariant-loop-request : goal.invariant-loop-request
invariant-loop-request l = map plain_output l.outputs ++ map delivered (map held_view l.request-iterator.rest.items) ≡ map delivered (map held_view l.fn.requests)
