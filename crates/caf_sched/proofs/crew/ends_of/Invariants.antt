use Rattle.std.proofs.Common.{◌≡◌, ◌+◌, length, All}
use Rattle.caf_sched.specs.Ends.{new_other}
use Rattle.caf_sched.proofs.crew.ends_of.Given as goal

abbrev pub invariant-loop-made : goal.invariant-loop-made
invariant-loop-made l = (length l.others.items ≡ l.made) × All (λ o. o ≡ new_other) l.others.items

abbrev pub invariant-loop-own : goal.invariant-loop-own
invariant-loop-own l = (length l.others.items ≡ length l.hands + l.own-index) × All (λ o. o ≡ new_other) l.others.items
