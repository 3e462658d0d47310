use Rattle.std.proofs.Common.{◌∷◌, ◌++◌, [], ap, ◌∙◌}
use Rattle.std.specs.Int.{w64, cast_unsigned}
use Rattle.std.proofs.lemmas.Int.{to_z-of_z}
use Rattle.caf_inspect.proofs.WordTellingLemmas.{word_told}
use Rattle.caf_inspect.proofs.word_saver.WordSaverSave.signed.Goals as goal

pub returns-clause-added : goal.returns-clause-added
returns-clause-added c = word_told (c.in_ok-write_signed.ensures.spelled ∙ ap (λ n. c.args.self.now.words.items ++ n ∷ []) (ap (cast_unsigned w64) (to_z-of_z w64 c.args.v c.ranges.v))) c.ranges.v
