use Rattle.std.proofs.Common.{ℕ, List, sym, subst, ◌∙◌}
use Rattle.caf_types.specs.TypeTable.{seen}
use Rattle.caf_words.specs.Several.{ids_of, TypesSpell}
use Rattle.caf_script.proofs.ReplyLemmas.{has_types, has_words, are_words, spelled_words, never_faulty}
use Rattle.caf_script.proofs.answer.values.Goals as goal

pub words_behind-words-requires : goal.words_behind-words-requires
words_behind-words-requires c = has_words (seen c.args.table.now) c.args.content.now c.args.types.now c.requires.fits c.requires.types

pub read-requires : goal.read-requires
read-requires c = has_types (seen c.args.table.now) c.args.content.now (ids_of c.args.types.now) c.requires.fits c.requires.types

pub unreachable-requires : goal.unreachable-requires
unreachable-requires c =
    let t = seen c.args.table.now in
    let types = c.args.types.now in
    let spell = spelled_words t c.args.content.now types c.requires.fits c.requires.types in
    never_faulty c.in-Err-At.field-0 c.in-Err-At.field-0-0 t (ids_of types) c.requires.fits.values _ c.in-Err-At.field-0-is c.in-Err-At.ensures.faulty
    (subst (λ (ws : List ℕ). TypesSpell t (ids_of types) c.requires.fits.values ws) (sym c.words_behind-words.ensures) spell)

pub returns-in-Ok : goal.returns-in-Ok
returns-in-Ok c =
    are_words (seen c.args.table.now) (ids_of c.args.types.now) _ _ c.in-Ok.ensures.found ∙ c.words_behind-words.ensures
