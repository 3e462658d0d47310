use Rattle.caf_inbox.proofs.RuleLemmas.{notes_reader}
use Rattle.caf_inbox.proofs.reader.Reader.note.Goals as goal

pub another-pass-requires-clause-rule : goal.another-pass-requires-clause-rule
another-pass-requires-clause-rule g c = notes_reader _ _ c.self.invariant.1
