use Rattle.std.proofs.Common.{◌≡◌, Err, sym, subst}
use Rattle.caf_words.specs.Several.{several, SeveralSpell}
use Rattle.caf_words.specs.Datum.{Data}
use Rattle.caf_words.specs.Answer.{Fails}
use Rattle.caf_words.specs.declared.stop.Stop.{Stop}
use Rattle.caf_words.proofs.RowLemmas.{never_stops, is_means}
use Rattle.caf_message.proofs.viewing.spelled_row.Goals as goal

pub unreachable-requires : goal.unreachable-requires
unreachable-requires g c =
    let e : several g.T.Row.shapes c.args.words.now ≡ Err c.in-Err-Left.field-0-0 =
    subst (λ (stop : Stop). Fails stop (several g.T.Row.shapes c.args.words.now)) c.in-Err-Left.field-0-is c.in-Err-Left.ensures in
    absurd (never_stops g.T.Row.shapes c.requires.0 c.args.words.now c.in-Err-Left.field-0-0 c.requires.1 e)

pub returns-in-Ok : goal.returns-in-Ok
returns-in-Ok g c =
    let same = is_means g.T.Row.shapes c.requires.0 (g.T.Row.means c.in-Ok.row) c.args.words.now _ c.requires.1 c.in-Ok.ensures in
    subst (λ (ds : Data). SeveralSpell g.T.Row.shapes ds c.args.words.now) (sym same) c.requires.1
