use Rattle.std.proofs.Common.{◌≡◌, ◌++◌, drop}
use Rattle.std.specs.Prelude.{flat_map}
use Rattle.caf_index.specs.IndexText.{number_text}
use Rattle.caf_index.proofs.text.push_lines.Given as goal

abbrev pub invariant-loop-line : goal.invariant-loop-line
invariant-loop-line l =
    l.text.items ++ flat_map (λ line. number_text line.0) (drop l.line-index l.lines)
    ≡ l.initial.text.items ++ flat_map (λ line. number_text line.0) l.lines
