use Rattle.std.proofs.Common.{◌≡◌, [], refl}
use Rattle.caf_inspect.proofs.WordTellingLemmas.{word_none}
use Rattle.caf_inspect.proofs.word_saver.WordSaverSave.field.Goals as goal

pub returns-clause-added : goal.returns-clause-added
returns-clause-added c = word_none (let r : [] ≡ [] = refl in r) tt
