use Rattle.caf_inbox.proofs.SenderLemmas.{all_taken}
use Rattle.caf_inbox.proofs.laws.all_was_taken.Goals as goal

pub returns : goal.returns
returns g c = all_taken _ _ _ _ _ c.requires.met c.requires.none c.requires.heard c.each_note_is_behind.ensures
