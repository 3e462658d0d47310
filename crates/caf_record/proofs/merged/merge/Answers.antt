use Rattle.std.proofs.Common.{ap, ◌∙◌, map}
use Rattle.caf_record.proofs.MergedLemmas.{are_its_merge}
use Rattle.caf_record.proofs.ListingLemmas.{listing}
use Rattle.caf_record.proofs.merged.merge.Goals as goal

pub returns-clause-listed : goal.returns-clause-listed
returns-clause-listed c =
    listing c.args.kept.now c.in_ok-batches.batches.items c.of_vec.result c.in_ok-batches.ensures
    (c.of_vec.ensures ∙ c.in_ok-list.ensures ∙ ap (map (λ b. (b.place, b.number))) c.deref.ensures.value)

pub returns-clause-merged : goal.returns-clause-merged
returns-clause-merged c = are_its_merge c.args.kept.now c.of_vec.result (returns-clause-listed c)
