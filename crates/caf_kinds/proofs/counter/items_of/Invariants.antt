use Rattle.std.proofs.Common.{◌≡◌, ◌++◌, map}
use Rattle.caf_kinds.specs.Counter.{item_of}
use Rattle.caf_kinds.proofs.counter.items_of.Given as goal

-- the items so far, and those that are left
abbrev pub invariant-loop-posting : goal.invariant-loop-posting
invariant-loop-posting l = l.items ++ map item_of l.posting-iterator.rest.items ≡ map item_of l.fn.postings
