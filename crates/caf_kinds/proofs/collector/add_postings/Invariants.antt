use Rattle.std.proofs.Common.{◌≡◌, drop, map}
use Rattle.caf_index.specs.Filled.{with_entries}
use Rattle.caf_kinds.specs.Collector.{entry_of, with_items}
use Rattle.caf_kinds.proofs.collector.add_postings.Given as goal

-- the index so far, with the items that are left
abbrev pub invariant-loop-item : goal.invariant-loop-item
invariant-loop-item l = with_entries l.index (map (entry_of l.postings.file) (drop l.item-index l.postings.items)) ≡ with_items l.initial.index l.postings
