use Rattle.std.proofs.Common.{◌≡◌, ◌-◌, ◌∙◌, Ok, ap, length, subst}
use Rattle.caf_types.specs.Shape.{tree}
use Rattle.caf_words.specs.Value.{datum}
use Rattle.caf_words.specs.Answer.{Fails}
use Rattle.caf_text.specs.TextReading.{untext}
use Rattle.caf_text.proofs.WholeLemmas.{has_text, longest_front}
use Rattle.caf_text.proofs.whole.read_text.Goals as goal

pub returns-in-Ok-clause-found : goal.returns-in-Ok-clause-found
returns-in-Ok-clause-found c =
    let f = tree c.args.shape.now in
    has_text f (datum c.in-Ok.value) c.args.text.now c.utf8.text (subst (λ bs. untext f bs ≡ Ok (datum c.in-Ok.value)) c.as_bytes-bytes.ensures.value c.in-Ok.ensures)

pub returns-in-Err-Left-clause-faulty : goal.returns-in-Err-Left-clause-faulty
returns-in-Err-Left-clause-faulty c =
    let f = tree c.args.shape.now in
    let e = c.as_bytes-bytes.ensures.value in
    longest_front f c.args.text.now c.in-Err-Left.left c.place_of.result c.utf8.text
    (subst (λ s. Fails s (untext f c.args.text.now)) c.in-Err-Left.field-0-is (subst (λ bs. Fails c.in-Err-Left.field-0 (untext f bs)) e c.in-Err-Left.ensures))
    (c.place_of.ensures ∙ ap (λ bs. length bs - c.in-Err-Left.left) e)
