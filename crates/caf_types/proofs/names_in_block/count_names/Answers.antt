use Rattle.std.proofs.Common.{arith}
use Rattle.std.proofs.lemmas.Grind.{text_counts}
use Rattle.caf_types.proofs.names_in_block.count_names.Goals as goal

pub overflow_add-counts : goal.overflow_add-counts
overflow_add-counts c = grind (arith, text_counts)

pub loop-entry-preserved : goal.loop-entry-preserved
loop-entry-preserved c = grind (arith, text_counts)
