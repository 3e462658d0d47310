use Rattle.std.proofs.Common.{ltb, arith, rules, ap, ◌∙◌}
use Rattle.std.proofs.lemmas.List.{get_or_default}
use Rattle.std.proofs.lemmas.List.Sorted.{IsPartitionPoint-from_clause, IsPartitionedBy-ltb}
use Rattle.caf_index.proofs.SortedLemmas.{rising}
use Rattle.caf_index.proofs.NumberMapLemmas.{place_from_parts}
use Rattle.caf_index.proofs.number_map.search.Goals as goal

pub returns-then-place-entries-clause-absent : goal.returns-then-place-entries-clause-absent
returns-then-place-entries-clause-absent g c =
    let parts = IsPartitionPoint-from_clause (λ e. ltb e.0 c.args.key) c.args.entries.now c.partition_point-place.result c.partition_point-place.ensures.partitioned
    (IsPartitionedBy-ltb (λ e. e.0) c.args.entries.now c.args.key (rising c.args.entries.now c.requires)) (λ a r f' q. search rules) in
    place_from_parts c.args.key c.args.entries.now c.partition_point-place.result c.partition_point-place.ensures.bound parts (λ d lt _. absurd (omega arith))

pub returns-else-entry-key-clause-absent : goal.returns-else-entry-key-clause-absent
returns-else-entry-key-clause-absent g c =
    let parts = IsPartitionPoint-from_clause (λ e. ltb e.0 c.args.key) c.args.entries.now c.partition_point-place.result c.partition_point-place.ensures.partitioned
    (IsPartitionedBy-ltb (λ e. e.0) c.args.entries.now c.args.key (rising c.args.entries.now c.requires)) (λ a r f' q. search rules) in
    place_from_parts c.args.key c.args.entries.now c.partition_point-place.result c.partition_point-place.ensures.bound parts (λ d lt same. c.if-entry-key.false (ap (λ e. e.0) (c.index-entries-place.is ∙ get_or_default c.args.entries.now c.partition_point-place.result c.index-entries-place.result d lt) ∙ same))
