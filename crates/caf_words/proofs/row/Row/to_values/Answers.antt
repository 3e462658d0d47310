use Rattle.std.proofs.Common.{◌≡◌, ◌++◌, ◌∙◌, ℕ, List, map, ap, Err, subst}
use Rattle.caf_types.specs.Shape.{tree}
use Rattle.caf_types.specs.declared.shape.Shape.{Shape}
use Rattle.caf_words.specs.Answer.{Fails}
use Rattle.caf_words.specs.Datum.{Data, data_of}
use Rattle.caf_words.specs.Several.{several, SeveralSpell}
use Rattle.caf_words.specs.Spelling.{spellings}
use Rattle.caf_words.specs.Value.{datum}
use Rattle.caf_words.specs.declared.stop.Stop.{Stop}
use Rattle.caf_words.specs.declared.value.Value.{Value}
use Rattle.caf_words.proofs.RowLemmas.{never_stops, is_means, are_spelled}
use Rattle.caf_words.proofs.row.Row.to_values.Goals as goal

pub returns-in-Ok : goal.returns-in-Ok
returns-in-Ok g c =
    let means : Data = g.Self.Row.means c.args.self.now in
    let shapes : map tree c.as_slice.result.now ≡ g.Self.Row.shapes = ap (λ (fs : List Shape). map tree fs) c.as_slice.ensures ∙ c.in_ok-shapes.ensures in
    let words : c.as_slice-2.result.now ≡ spellings means =
    c.as_slice-2.ensures.value ∙ c.in_ok-write_words.ensures.spelled ∙ ap (λ (xs : List ℕ). xs ++ spellings means) c.new-words.ensures.items in
    let spelled : SeveralSpell (map tree c.as_slice.result.now) means c.as_slice-2.result.now =
    are_spelled _ _ means _ shapes words (g.met.Self.Row.are_of_shapes c.args.self.now) c.in_ok-write_words.ensures.in_range in
    ap (λ (vs : List Value). data_of (map datum vs)) c.of_vec.ensures ∙ is_means _ means _ _ _ spelled c.in-Ok.ensures

pub unreachable-requires : goal.unreachable-requires
unreachable-requires g c =
    let means : Data = g.Self.Row.means c.args.self.now in
    let shapes : map tree c.as_slice.result.now ≡ g.Self.Row.shapes = ap (λ (fs : List Shape). map tree fs) c.as_slice.ensures ∙ c.in_ok-shapes.ensures in
    let words : c.as_slice-2.result.now ≡ spellings means =
    c.as_slice-2.ensures.value ∙ c.in_ok-write_words.ensures.spelled ∙ ap (λ (xs : List ℕ). xs ++ spellings means) c.new-words.ensures.items in
    let spelled : SeveralSpell (map tree c.as_slice.result.now) means c.as_slice-2.result.now =
    are_spelled _ _ means _ shapes words (g.met.Self.Row.are_of_shapes c.args.self.now) c.in_ok-write_words.ensures.in_range in
    let e : several (map tree c.as_slice.result.now) c.as_slice-2.result.now ≡ Err c.in-Err-Left.field-0-0 =
    subst (λ (stop : Stop). Fails stop (several (map tree c.as_slice.result.now) c.as_slice-2.result.now)) c.in-Err-Left.field-0-is c.in-Err-Left.ensures in
    absurd (never_stops _ means _ _ spelled e)
