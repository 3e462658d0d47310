use Rattle.std.proofs.Common.{◌≡◌, List, map, sym, subst, Err}
use Rattle.caf_types.specs.TypeTable.{seen}
use Rattle.caf_words.specs.Datum.{data_of}
use Rattle.caf_words.specs.Several.{ids_of, whole_reading, TypesSpell}
use Rattle.caf_words.specs.Answer.{Fails}
use Rattle.caf_words.specs.Value.{datum}
use Rattle.caf_words.specs.declared.stop.Stop.{Stop}
use Rattle.caf_words.specs.declared.value.Value.{Value}
use Rattle.caf_words.proofs.PackingLemmas.{words_at}
use Rattle.caf_words.proofs.SeveralLemmas.{whole_sound, no_values, whole_bound}
use Rattle.caf_words.proofs.reading.read.Goals as goal

pub returns-in-Ok-clause-found : goal.returns-in-Ok-clause-found
returns-in-Ok-clause-found c =
    subst (λ (vs : List Value). TypesSpell (seen c.args.table.now) (ids_of c.args.types.now) (data_of (map datum vs)) c.args.words.now) (sym c.of_vec.ensures)
    (whole_sound (seen c.args.table.now) (ids_of c.args.types.now) c.args.words.now _ (words_at c.args.words.now c.type_inv.words) c.in-Ok.ensures)

pub returns-in-Err-Left-clause-faulty : goal.returns-in-Err-Left-clause-faulty
returns-in-Err-Left-clause-faulty c =
    let t = seen c.args.table.now in
    let ids = ids_of c.args.types.now in
    let e : whole_reading t ids c.args.words.now ≡ Err c.in-Err-Left.left =
    subst (λ (stop : Stop). Fails stop (whole_reading t ids c.args.words.now)) c.in-Err-Left.field-0-is c.in-Err-Left.ensures in
    (no_values t ids c.args.words.now c.in-Err-Left.left e, c.in-Err-Left.left, e, c.place_of.ensures (whole_bound t ids c.args.words.now c.in-Err-Left.left e))
