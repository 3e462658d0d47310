use Rattle.std.proofs.Common.{◌≡◌, ◌++◌, List, ℕ, ap, sym, subst, ◌∙◌, map}
use Rattle.std.specs.Prelude.{OnOk}
use Rattle.caf_types.specs.TypeTable.{seen}
use Rattle.caf_words.specs.Datum.{data_of}
use Rattle.caf_words.specs.Several.{ids_of}
use Rattle.caf_words.specs.Value.{datum}
use Rattle.caf_words.specs.declared.value.Value.{Value}
use Rattle.caf_script.specs.Reply.{words_of}
use Rattle.caf_report.specs.Values.{AreOfTypes, forms, values_text}
use Rattle.caf_report.proofs.ValueLemmas.{of_types, text_read}
use Rattle.caf_report.proofs.values.push_reply.Goals as goal

pub push_values-requires : goal.push_values-requires
push_values-requires c =
    let t = seen c.args.table.now in
    let ids = ids_of c.args.types.now in
    subst (λ (vs : List Value). AreOfTypes t ids (data_of (map datum vs))) (sym c.as_slice-in-Ok.ensures) (of_types t ids _ _ c.in-Ok.ensures.found)

pub returns-in-Ok : goal.returns-in-Ok
returns-in-Ok c =
    let t = seen c.args.table.now in
    let ids = ids_of c.args.types.now in
    subst (λ (w : List ℕ). OnOk c.push_values.result (c.push_values.new.text.items ≡ c.args.text.now.items ++ w))
    (ap (λ (vs : List Value). forms t ids (data_of (map datum vs))) c.as_slice-in-Ok.ensures
    ∙ sym (text_read t ids _ _ c.in-Ok.ensures.found)
    ∙ ap (values_text t ids) (c.as_slice-2.ensures ∙ c.in_ok-words.ensures ∙ ap words_of c.as_slice.ensures))
    c.push_values.ensures
