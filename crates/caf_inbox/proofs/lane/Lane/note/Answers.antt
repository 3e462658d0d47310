use Rattle.caf_inbox.proofs.RuleLemmas.{notes_lane}
use Rattle.caf_inbox.proofs.lane.Lane.note.Goals as goal

pub another-pass-requires-clause-rule : goal.another-pass-requires-clause-rule
another-pass-requires-clause-rule g c = notes_lane _ _ c.self.invariant.1
