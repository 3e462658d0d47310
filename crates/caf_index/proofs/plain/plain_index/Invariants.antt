use Rattle.std.proofs.Common.{◌≡◌, ◌+◌, drop}
use Rattle.caf_index.specs.PlainIndex.{with_files, plain_index_of}
use Rattle.caf_index.proofs.plain.plain_index.Given as goal

abbrev pub invariant-loop-before : goal.invariant-loop-before
invariant-loop-before l = with_files l.index (l.before + 1) (drop l.before l.files) ≡ plain_index_of l.files
