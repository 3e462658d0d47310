use Rattle.std.proofs.Common.{◌≡◌, ◌++◌, drop}
use Rattle.std.specs.Prelude.{flat_map}
use Rattle.std.specs.FinMap as map
use Rattle.caf_index.specs.IndexText.{under_word, files_text, index_text_of}
use Rattle.caf_index.proofs.text.index_text.Given as goal

abbrev pub invariant-loop-word : goal.invariant-loop-word
invariant-loop-word l =
    l.text.items ++ flat_map (λ word. under_word word.0 (files_text l.names word.1)) (drop l.word-index (map.entries l.index))
    ≡ index_text_of l.names l.index
