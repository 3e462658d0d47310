use Rattle.std.proofs.Common.{◌≡◌, ℕ, ◌+◌, List, length, drop, sym, ap, subst, ◌∙◌}
use Rattle.caf_types.specs.TypeTable.{seen}
use Rattle.caf_types.specs.declared.shape.TypeId.{TypeId}
use Rattle.caf_words.specs.Several.{ids_of, SeveralSpell}
use Rattle.caf_steps.specs.declared.reference.Reference.{Reference}
use Rattle.caf_message.specs.Content.{ids_in}
use Rattle.caf_message.proofs.ContentLemmas.{length-ids_of}
use Rattle.caf_message.proofs.FitsLemmas.{behind_ids, means_row}
use Rattle.caf_message.proofs.message.Message.view.Goals as goal

-- the words that were read stand behind the IDs
behind : (content inside words ids : List ℕ) (types slice : List TypeId) → inside ≡ content → ids_of types ≡ ids → slice ≡ types → words ≡ drop (length slice + 1) inside → drop (length ids + 1) content ≡ words
behind content inside words ids types slice kept same listed read =
    ap (λ (xs : List ℕ). drop (length xs + 1) content) (sym same)
    ∙ ap (λ (n : ℕ). drop (n + 1) content) (length-ids_of types)
    ∙ ap (λ (ts : List TypeId). drop (length ts + 1) content) (sym listed)
    ∙ ap (drop (length slice + 1)) (sym kept)
    ∙ sym read

pub spelled_row-requires : goal.spelled_row-requires
spelled_row-requires g c =
    let content : List ℕ = c.args.self.now.content in
    let kept : c.self.inside.tuple.content ≡ content = ap (λ (r : Reference). r.content) c.self.view_is in
    let same : ids_in content ≡ g.T.Row.ids = ap ids_in (sym kept) ∙ c.in_ok-words.ensures.types ∙ ap ids_of c.as_slice.ensures ∙ c.in_ok-types.ensures in (
      c.requires.message_fits.values,
      subst (λ (ws : List ℕ). SeveralSpell g.T.Row.shapes c.requires.message_fits.values ws)
          (behind content _ _ g.T.Row.ids _ _ kept c.in_ok-types.ensures c.as_slice.ensures (c.as_slice-2.ensures.value ∙ c.in_ok-words.ensures.words))
          (behind_ids (seen c.args.table.now) content g.T.Row.ids g.T.Row.shapes c.requires.message_fits c.requires.row_fits same),
    )

pub returns-clause-row : goal.returns-clause-row
returns-clause-row g c =
    let content : List ℕ = c.args.self.now.content in
    let kept : c.self.inside.tuple.content ≡ content = ap (λ (r : Reference). r.content) c.self.view_is in
    let same : ids_in content ≡ g.T.Row.ids = ap ids_in (sym kept) ∙ c.in_ok-words.ensures.types ∙ ap ids_of c.as_slice.ensures ∙ c.in_ok-types.ensures in
    let row = g.T.Row.means c.in_ok-spelled_row.field-0 in
    means_row (seen c.args.table.now) content g.T.Row.ids g.T.Row.shapes c.requires.message_fits c.requires.row_fits same row
    (subst (λ (ws : List ℕ). SeveralSpell g.T.Row.shapes row ws)
    (sym (behind content _ _ g.T.Row.ids _ _ kept c.in_ok-types.ensures c.as_slice.ensures (c.as_slice-2.ensures.value ∙ c.in_ok-words.ensures.words)))
    c.in_ok-spelled_row.ensures)
