use Rattle.caf_message.proofs.ListLemmas.{NoneBefore}
use Rattle.caf_response.specs.Pending.{has_number}
use Rattle.caf_response.proofs.pending.position_of.Given as goal

abbrev pub invariant-loop-i : goal.invariant-loop-i
invariant-loop-i l = NoneBefore (has_number l.number) l.stack.items l.i
