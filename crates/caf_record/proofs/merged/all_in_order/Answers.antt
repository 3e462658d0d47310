use Rattle.std.proofs.Common.{ap, ◌∙◌, map}
use Rattle.caf_record.specs.Merged.{entries_from}
use Rattle.caf_record.specs.Listed.{listed_of}
use Rattle.caf_record.proofs.ListingLemmas.{sorted_listing}
use Rattle.caf_record.proofs.merged.all_in_order.Goals as goal

pub returns : goal.returns
returns c =
    sorted_listing c.args.kept.now.journals c.in_ok-batches.batches.items c.sort.new.self.items
    (c.in_ok-batches.ensures ∙ ap (λ js. map listed_of (entries_from 0 js)) c.as_slice.ensures) c.sort.ensures.permutation c.in_ok-sort.ensures.sorted
