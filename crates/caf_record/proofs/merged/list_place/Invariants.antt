use Rattle.std.proofs.Common.{◌≡◌, ◌++◌, map, drop}
use Rattle.caf_record.specs.Merged.{numbered}
use Rattle.caf_record.specs.Listed.{listed_of}
use Rattle.caf_record.proofs.merged.list_place.Given as goal

abbrev pub invariant-loop-number : goal.invariant-loop-number
invariant-loop-number l =
    l.batches.items ++ map listed_of (numbered l.place l.number (drop l.number l.journal))
    ≡ l.initial.batches.items ++ map listed_of (numbered l.place 0 l.journal)
