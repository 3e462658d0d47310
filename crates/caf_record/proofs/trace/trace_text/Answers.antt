use Rattle.std.proofs.Common.{◌∙◌}
use Rattle.caf_record.specs.Trace.{trace_of}
use Rattle.caf_record.proofs.ListingLemmas.{is_there, line_more}
use Rattle.caf_record.proofs.trace.trace_text.Goals as goal

pub batch_of-requires : goal.batch_of-requires
batch_of-requires c =
    is_there c.args.kept.now c.deref-batch-items.result.now (c.deref-batch-items.ensures.value ∙ c.in_ok-batches.ensures) c.loop-batch.batch-index (record { stamp = 0; place = 0; number = 0 }) c.loop-batch-test.true

pub loop-batch-preserved : goal.loop-batch-preserved
loop-batch-preserved c =
    line_more c.args.kept.now c.deref-batch-items.result.now (c.deref-batch-items.ensures.value ∙ c.in_ok-batches.ensures) c.loop-batch.batch-index (record { stamp = 0; place = 0; number = 0 }) c.loop-batch-test.true
    c.batch_of.result.now c.loop-batch.text.items c.push_line.new.text.items (trace_of c.args.kept.now) c.batch_of.ensures c.loop-batch.invariant c.in_ok-push_line.ensures
