use Rattle.std.proofs.Common.{ap, sym, ◌∙◌, ◌<◌, length, get_or, subst, arith}
use Rattle.caf_record.proofs.ListingLemmas.{number_within, batch_read}
use Rattle.caf_record.proofs.trace.batch_of.Goals as goal

pub bounds-as_slice-batch-2 : goal.bounds-as_slice-batch-2
bounds-as_slice-batch-2 c =
    subst (λ bs. c.args.batch.now.number < length bs) (sym c.as_slice-2.ensures)
    (number_within c.args.kept.now.journals c.args.batch.now.place c.args.batch.now.number c.requires c.index-as_slice-batch.result
    (c.index-as_slice-batch.is ∙ ap (λ js. get_or js c.args.batch.now.place c.index-as_slice-batch.result) c.as_slice.ensures))

-- the journal's bytes fit, and so do those before the batch
pub offset_bounds-as_slice-batch-2 : goal.offset_bounds-as_slice-batch-2
offset_bounds-as_slice-batch-2 c =
    let within : c.args.batch.now.number < length c.as_slice-2.result.now = bounds-as_slice-batch-2 c in
    let small = c.as_slice-2.type_inv.1 in omega arith

pub returns : goal.returns
returns c =
    batch_read c.args.kept.now.journals c.args.batch.now.place c.args.batch.now.number c.requires c.index-as_slice-batch.result
    (c.index-as_slice-batch.is ∙ ap (λ js. get_or js c.args.batch.now.place c.index-as_slice-batch.result) c.as_slice.ensures)
    c.index-as_slice-batch-2.result
    (c.index-as_slice-batch-2.is ∙ ap (λ bs. get_or bs c.args.batch.now.number c.index-as_slice-batch-2.result) c.as_slice-2.ensures)
