use Rattle.std.proofs.Common.{◌≡◌, ◌+◌, ◌++◌, length, drop}
use Rattle.caf_kinds.specs.FileChunks.{places_from}
use Rattle.caf_kinds.proofs.file_chunks.places_of.Given as goal

-- the places so far, and those of the files that are left
abbrev pub invariant-loop-before : goal.invariant-loop-before
invariant-loop-before l = l.places ++ places_from (l.before + 1) (length l.places) (drop l.before l.files) ≡ places_from 1 0 l.files
