use Rattle.std.proofs.Common.{rules}
use Rattle.caf_inbox.proofs.RuleLemmas.{meets_reader, learns_lane, last_met}
use Rattle.caf_inbox.proofs.lane.Lane.meet.Goals as goal

pub absorb-requires-clause-rule : goal.absorb-requires-clause-rule
absorb-requires-clause-rule g c = meets_reader _ _ _ _ c.self.invariant.1 (search rules)

pub len_as-requires-clause-rule : goal.len_as-requires-clause-rule
len_as-requires-clause-rule g c = learns_lane _ _ (search rules)

pub returns-clause-before : goal.returns-clause-before
returns-clause-before g c =
    rw (← c.self.view_is, ← c.note.view_is) (last_met c.self.inside.pass.me.view.client c.note.inside.pass.me.view.client c.absorb.new.pass.me.view.client c.absorb.ensures.rule c.len_as.ensures.rule.2)
