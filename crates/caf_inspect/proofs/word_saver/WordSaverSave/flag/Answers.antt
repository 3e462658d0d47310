use Rattle.caf_inspect.proofs.WordTellingLemmas.{word_told}
use Rattle.caf_inspect.proofs.word_saver.WordSaverSave.flag.Goals as goal

pub returns-clause-added : goal.returns-clause-added
returns-clause-added c = word_told c.in_ok-write_flag.ensures.spelled tt
