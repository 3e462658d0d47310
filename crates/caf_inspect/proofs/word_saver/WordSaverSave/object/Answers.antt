use Rattle.caf_inspect.proofs.WordTellingLemmas.{word_told}
use Rattle.caf_inspect.proofs.word_saver.WordSaverSave.object.Goals as goal

pub returns-clause-added : goal.returns-clause-added
returns-clause-added c = word_told c.in_ok-write_object_head.ensures.spelled c.in_ok-write_object_head.ensures.in_range
