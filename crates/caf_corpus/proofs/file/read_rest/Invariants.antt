use Rattle.std.proofs.Common.{◌≡◌, ℕ, ◌+◌, ◌≤◌, ◌-◌, List, length, vec_len, IfSome}
use Rattle.std.specs.Io.{StartsWith}
use Rattle.caf_io.specs.Files.{told_file}
use Rattle.caf_corpus.specs.Limits.{IsScanned}
use Rattle.caf_corpus.specs.declared.scan.TheConstants.{LARGEST_CORPUS}
use Rattle.caf_corpus.proofs.file.read_rest.Given as goal

-- a prefix of the file before is a prefix still, and no byte of it passes a limit
abbrev pub invariant-loop : goal.invariant-loop
invariant-loop g l =
    (IfSome (told_file (g.F.Files.told l.initial.files) l.name)
    (λ file. StartsWith file l.initial.bytes.items → StartsWith file l.bytes.items))
    × (l.before + vec_len l.bytes ≤ LARGEST_CORPUS)
    × IsScanned l.before l.bytes.items l.spot
    × (length l.buffer ≡ length l.initial.buffer)
    × (g.F.Files.told l.files ≡ g.F.Files.told l.initial.files)
    × ((other : List ℕ) → g.F.Files.faults l.files other ≡ g.F.Files.faults l.initial.files other)

-- each turn but the last reads a byte at least
abbrev pub decreases-loop : goal.decreases-loop
decreases-loop g l = LARGEST_CORPUS - vec_len l.bytes
