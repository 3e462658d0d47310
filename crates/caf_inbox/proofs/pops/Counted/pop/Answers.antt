use Rattle.caf_inbox.proofs.RuleLemmas.{pops, learns_reader}
use Rattle.caf_inbox.proofs.pops.Counted.pop.Goals as goal

pub pop_as-requires-clause-rule : goal.pop_as-requires-clause-rule
pop_as-requires-clause-rule g c = (pops _ _ c.requires.1, learns_reader _ _ c.requires.1)
