use Rattle.std.proofs.Common.{◌≡◌, ◌++◌, length, drop}
use Rattle.caf_kinds.specs.FileChunks.{places_numbered}
use Rattle.caf_kinds.proofs.file_chunks.add_places.Given as goal

-- the places so far, and those of the chunks that are left
abbrev pub invariant-loop-span : goal.invariant-loop-span
invariant-loop-span l = l.places ++ places_numbered l.file (length l.places) (drop l.span-index l.spans) ≡ l.initial.places ++ places_numbered l.file (length l.initial.places) l.spans
