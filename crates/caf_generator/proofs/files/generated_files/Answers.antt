use Rattle.std.proofs.Common.{◌≡◌, ℕ, ◌+◌, ◌-◌, ◌*◌, ◌/◌, ◌%◌, min, ◌∷◌, [], ◌++◌, ◌∙◌, ap, arith, flat_map}
use Rattle.caf_generator.specs.Generator.{span, line_at, file_at}
use Rattle.caf_generator.proofs.SpanLemmas.{item-more}
use Rattle.caf_generator.proofs.files.generated_files.Goals as goal

pub loop-file-preserved : goal.loop-file-preserved
loop-file-preserved c = record {
  files =
      let file = c.loop-file.file in
      let lines = c.from-lines.result in
      let last = (lines + 999) / 1000 in
      item-more (file_at lines) file (last - file) (last - (file + 1)) c.loop-file.files _ _ (omega arith) c.loop-file.invariant.files
      (c.in_ok-push.ensures.added ∙ ap (λ t. c.loop-file.files ++ t ∷ []) (c.in_ok-next_file.ensures.text ∙ ap (λ n. flat_map line_at (span (1000 * file) n)) c.min-count.ensures));
  taken = let h = c.in_ok-next_file.ensures.taken in let k = c.min-count.ensures in omega (arith, h, k);
}
