use Rattle.std.proofs.Common.{ℕ, ◌++◌, ap, ◌∙◌}
use Rattle.std.specs.Prelude.{map}
use Rattle.std.specs.FinMap as finite
use Rattle.caf_index.specs.Index.{Lines}
use Rattle.caf_index.specs.IndexText.{name_of, file_text}
use Rattle.caf_index.proofs.TextLemmas.{written_more}
use Rattle.caf_index.proofs.text.push_files.Goals as goal

pub loop-entry-preserved : goal.loop-entry-preserved
loop-entry-preserved c =
    let text = c.loop-entry.text.items in
    let names = c.args.names.now in
    let entry = c.entry-item.result in
    written_more (λ (file : ℕ × Lines). file_text (name_of names file.0) (finite.keys file.1)) c.as_slice-entry-items.result.now c.loop-entry.entry-index entry text c.push_file.new.text.items _ c.loop-entry-test.true c.loop-entry.invariant
    (c.in_ok-push_file.ensures
    ∙ ap (λ o. text ++ file_text o (map (λ line. line.0) c.as_slice.result.now)) c.name_of.ensures
    ∙ ap (λ es. text ++ file_text (name_of names entry.0) (map (λ line. line.0) es)) c.as_slice.ensures
    ∙ ap (λ (file : ℕ × Lines). text ++ file_text (name_of names file.0) (finite.keys file.1)) c.entry-item.is)
