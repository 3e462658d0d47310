use Rattle.std.proofs.Common.{◌≡◌, ◌+◌, length, All}
use Rattle.caf_sched.specs.Ends.{new_own}
use Rattle.caf_sched.specs.Hand.{new_hand}
use Rattle.caf_sched.proofs.crew.make_hands.Given as goal

abbrev pub invariant-loop-own : goal.invariant-loop-own
invariant-loop-own l = (length l.hands.items + length l.owns.items ≡ length l.fn.owns.items) × All (λ o. o ≡ new_own) l.owns.items × All (λ h. h ≡ new_hand (length l.fn.owns.items)) l.hands.items

abbrev pub decreases-loop-own : goal.decreases-loop-own
decreases-loop-own l = length l.owns.items
