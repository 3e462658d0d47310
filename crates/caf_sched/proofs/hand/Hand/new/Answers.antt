use Rattle.caf_sched.proofs.HandLemmas.{hand_is}
use Rattle.caf_sched.proofs.hand.Hand.new.Goals as goal

pub returns : goal.returns
returns c = hand_is _ _ c.requires.0 c.requires.1
