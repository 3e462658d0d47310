use Rattle.std.proofs.Common.{ℕ, List, [], ◌++◌, get_or, ap, ◌∙◌}
use Rattle.std.specs.Prelude.{map}
use Rattle.std.specs.FinMap as finite
use Rattle.caf_index.specs.Index.{Files}
use Rattle.caf_index.specs.IndexText.{under_word, files_text}
use Rattle.caf_index.proofs.TextLemmas.{written_more, entry-text, entries-as-many}
use Rattle.caf_index.proofs.text.index_text.Goals as goal

pub loop-word-preserved : goal.loop-word-preserved
loop-word-preserved c =
    let text = c.loop-word.text.items in
    let names = c.args.names.now in
    let index = c.args.index.now in
    let texts = ap (map (λ t. t.now)) c.deref-word-items.ensures.value ∙ c.in_ok-words.ensures in
    written_more (λ (word : List ℕ × Files). under_word word.0 (files_text names word.1)) (finite.entries index) c.loop-word.word-index ([], finite.empty) text c.push_word.new.text.items _
    (entries-as-many (λ t. t.now) _ index texts c.loop-word.word-index c.loop-word-test.true) c.loop-word.invariant
    (c.in_ok-push_word.ensures ∙ ap (λ t. text ++ t) (entry-text c.as_slice.result.now (λ t. t.now) c.deref-word-items.result.now index texts c.loop-word.word-index _ ([], finite.empty) c.loop-word-test.true)
    ∙ ap (λ ns. text ++ under_word (get_or (finite.entries index) c.loop-word.word-index ([], finite.empty)).0 (files_text ns (get_or (finite.entries index) c.loop-word.word-index ([], finite.empty)).1)) c.as_slice.ensures)
