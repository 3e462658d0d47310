use Rattle.std.proofs.Common.{◌+◌, ◌-◌, refl, arith}
use Rattle.caf_generator.specs.Generator.{line_at}
use Rattle.caf_generator.proofs.SpanLemmas.{piece-more}
use Rattle.caf_generator.proofs.files.next_file.Goals as goal

pub loop-line-preserved : goal.loop-line-preserved
loop-line-preserved c = record {
  text =
      let line = c.loop-line.line in
      let last = c.args.first + c.args.count in
      piece-more line_at line (line + 1) (last - line) (last - (line + 1)) c.loop-line.text.items _ _ (omega arith) refl c.loop-line.invariant.text c.in_ok-push_line.ensures.text;
  taken = c.in_ok-push_line.ensures.taken;
}
