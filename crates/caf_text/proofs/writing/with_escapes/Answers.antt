use Rattle.std.proofs.Common.{[], ◌++◌, ◌∙◌, ap, sym, subst, flat_map, true≢false, IsUtf8}
use Rattle.caf_text.specs.TextForm.{escape}
use Rattle.caf_text.proofs.Utf8Lemmas.{escaped_valid}
use Rattle.caf_text.proofs.writing.with_escapes.Goals as goal

pub unreachable-requires : goal.unreachable-requires
unreachable-requires c =
    let written = c.in_ok-add_each_escaped.ensures ∙ ap (λ xs. xs ++ flat_map escape c.as_bytes.result.now) c.new-escaped.ensures.items ∙ ap (flat_map escape) c.as_bytes.ensures.value in
    absurd (true≢false (sym (c.in-Err.ensures.succeeds (subst IsUtf8 (sym written) (escaped_valid [] c.args.content.now c.utf8.content)))))
