use Rattle.std.proofs.Common.{◌≡◌, ◌++◌, ◌∙◌, ℕ, List, map, ap, refl, sym, true, Err, subst}
use Rattle.caf_words.specs.Answer.{Fails}
use Rattle.caf_words.specs.Datum.{Data, data_of}
use Rattle.caf_words.specs.Several.{several, several_fit}
use Rattle.caf_words.specs.Spelling.{spellings}
use Rattle.caf_words.specs.Value.{datum}
use Rattle.caf_words.specs.declared.stop.Stop.{Stop}
use Rattle.caf_words.specs.declared.value.Value.{Value}
use Rattle.caf_words.proofs.RowLemmas.{never_stops, is_means, are_spelled}
use Rattle.caf_words.proofs.row.Row.from_values.Goals as goal

pub returns-in-Ok : goal.returns-in-Ok
returns-in-Ok g c =
    let means : List Value → Data = λ vs. data_of (map datum vs) in
    let words : c.as_slice-2.result.now ≡ spellings (means c.as_slice.result.now) =
    c.as_slice-2.ensures.value ∙ c.in_ok-write_values.ensures.spelled ∙ ap (λ (xs : List ℕ). xs ++ spellings (means c.as_slice.result.now)) c.new-words.ensures.items in
    let fit : several_fit g.Self.Row.shapes (means c.as_slice.result.now) ≡ true =
    subst (λ (vs : List Value). several_fit g.Self.Row.shapes (means vs) ≡ true) (sym c.as_slice.ensures) c.requires in
    is_means g.Self.Row.shapes (means c.as_slice.result.now) _ _ _ (are_spelled _ _ _ _ refl words fit c.in_ok-write_values.ensures.in_range) c.in-Ok.ensures
    ∙ ap means c.as_slice.ensures

pub unreachable-requires : goal.unreachable-requires
unreachable-requires g c =
    let means : List Value → Data = λ vs. data_of (map datum vs) in
    let words : c.as_slice-2.result.now ≡ spellings (means c.as_slice.result.now) =
    c.as_slice-2.ensures.value ∙ c.in_ok-write_values.ensures.spelled ∙ ap (λ (xs : List ℕ). xs ++ spellings (means c.as_slice.result.now)) c.new-words.ensures.items in
    let fit : several_fit g.Self.Row.shapes (means c.as_slice.result.now) ≡ true =
    subst (λ (vs : List Value). several_fit g.Self.Row.shapes (means vs) ≡ true) (sym c.as_slice.ensures) c.requires in
    let e : several g.Self.Row.shapes c.as_slice-2.result.now ≡ Err c.in-Err-Left.field-0-0 =
    subst (λ (stop : Stop). Fails stop (several g.Self.Row.shapes c.as_slice-2.result.now)) c.in-Err-Left.field-0-is c.in-Err-Left.ensures in
    absurd (never_stops g.Self.Row.shapes (means c.as_slice.result.now) _ _ (are_spelled _ _ _ _ refl words fit c.in_ok-write_values.ensures.in_range) e)
