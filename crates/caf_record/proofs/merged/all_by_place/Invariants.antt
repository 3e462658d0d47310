use Rattle.std.proofs.Common.{◌≡◌, ◌++◌, map, drop}
use Rattle.caf_record.specs.Merged.{entries_from}
use Rattle.caf_record.specs.Listed.{listed_of}
use Rattle.caf_record.proofs.merged.all_by_place.Given as goal

abbrev pub invariant-loop-place : goal.invariant-loop-place
invariant-loop-place l =
    l.batches.items ++ map listed_of (entries_from l.place (drop l.place l.journals)) ≡ map listed_of (entries_from 0 l.journals)
