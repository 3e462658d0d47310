use Rattle.std.proofs.Common.{◌≡◌, [], ◌++◌, ap, sym, ◌∙◌, append-nil}
use Rattle.std.specs.Prelude.{flat_map, unwrap_or}
use Rattle.std.specs.Ordering.{nat_cmp}
use Rattle.std.specs.FinMap as finite
use Rattle.caf_index.specs.Index.{files_of}
use Rattle.caf_index.specs.IndexText.{name_of, file_text, files_text, under_word}
use Rattle.caf_index.proofs.CountLemmas.{entries-empty}
use Rattle.caf_index.proofs.text.push_word.Goals as goal

pub returns-in-None : goal.returns-in-None
returns-in-None c =
    let names = c.args.names.now in
    let none : files_text names (files_of c.args.index.now c.args.word.now) ≡ [] =
    ap (λ o. files_text names (unwrap_or o finite.empty)) (sym c.in-None.ensures)
    ∙ ap (flat_map (λ file. file_text (name_of names file.0) (finite.keys file.1))) (entries-empty nat_cmp) in
    sym (append-nil c.args.text.now.items) ∙ ap (λ t. c.args.text.now.items ++ under_word c.args.word.now t) (sym none)
