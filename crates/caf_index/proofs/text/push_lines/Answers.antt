use Rattle.std.proofs.Common.{◌++◌, ap, sym, ◌∙◌, arith}
use Rattle.std.proofs.lemmas.List.Folds.{flat_map-map}
use Rattle.caf_index.specs.IndexText.{number_text}
use Rattle.caf_index.proofs.TextLemmas.{written_all}
use Rattle.caf_index.proofs.text.push_lines.Goals as goal

pub returns : goal.returns
returns c =
    written_all (λ line. number_text line.0) c.args.lines.now c.loop-line.line-index c.loop-line.text.items _ (omega arith) c.loop-line.invariant
    ∙ ap (λ t. c.args.text.now.items ++ t) (sym (flat_map-map number_text (λ line. line.0) c.args.lines.now))
