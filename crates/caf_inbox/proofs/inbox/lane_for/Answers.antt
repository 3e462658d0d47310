use Rattle.caf_inbox.proofs.RuleLemmas.{cuts_lane}
use Rattle.caf_inbox.proofs.inbox.lane_for.Goals as goal

pub another-requires-clause-rule : goal.another-requires-clause-rule
another-requires-clause-rule g c = rw (← c.requires.named) (cuts_lane _ _ _ c.requires.pass.1 c.requires.new)
