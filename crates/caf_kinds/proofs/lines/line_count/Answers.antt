use Rattle.std.proofs.Common.{◌≡◌, ◌+◌, true, false, length, sym, ◌∙◌, arith}
use Rattle.std.specs.Prelude.{count_by}
use Rattle.caf_index.specs.Words.{is_line_end}
use Rattle.caf_index.specs.Chunks.{lines_of}
use Rattle.caf_kinds.specs.Lines.{ends_open}
use Rattle.caf_kinds.proofs.LineLemmas.{lines_counted}
use Rattle.caf_kinds.proofs.lines.line_count.Goals as goal

pub returns-then-ends_open : goal.returns-then-ends_open
returns-then-ends_open c =
    let bytes = c.args.bytes.now in
    let is : ends_open bytes ≡ true = sym c.ends_open.ensures ∙ c.if-ends_open.true in
    let all : length (lines_of bytes) ≡ count_by is_line_end bytes + 1 = rw is at (lines_counted bytes) in
    omega (arith, all, c.line_ends-ended.ensures)

pub returns-else-ends_open : goal.returns-else-ends_open
returns-else-ends_open c =
    let bytes = c.args.bytes.now in
    let is : ends_open bytes ≡ false = sym c.ends_open.ensures ∙ c.if-ends_open.false in
    let all : length (lines_of bytes) ≡ count_by is_line_end bytes + 0 = rw is at (lines_counted bytes) in
    omega (arith, all, c.line_ends-ended.ensures)
