use Rattle.std.proofs.Common.{subst, ◌<◌, ◌^◌, length}
use Rattle.caf_words.specs.Spelling.{AreBytes}
use Rattle.caf_inspect.proofs.WordTellingLemmas.{word_told}
use Rattle.caf_inspect.proofs.word_saver.WordSaverSave.text.Goals as goal

pub returns-clause-added : goal.returns-clause-added
returns-clause-added c =
    let e = c.as_bytes-bytes.ensures.value in
    let m = c.measured.ensures in
    word_told c.in_ok-write_text.ensures.spelled (subst AreBytes e m.bytes, subst (λ bs. length bs < 2 ^ 64) e m.length, c.utf8.v)
