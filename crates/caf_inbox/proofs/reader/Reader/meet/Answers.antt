use Rattle.std.proofs.Common.{rules}
use Rattle.caf_inbox.proofs.RuleLemmas.{meets_lane}
use Rattle.caf_inbox.proofs.reader.Reader.meet.Goals as goal

pub absorb-requires-clause-rule : goal.absorb-requires-clause-rule
absorb-requires-clause-rule g c = meets_lane _ _ _ _ c.self.invariant.1 (search rules)
