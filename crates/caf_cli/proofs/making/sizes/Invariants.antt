use Rattle.std.proofs.Common.{◌≡◌, ℕ, List, length, take}
use Rattle.std.specs.List.{sum_by, count_by}
use Rattle.caf_corpus.specs.Limits.{is_line_end}
use Rattle.caf_index.specs.Chunks.{chunks_of}
use Rattle.caf_cli.specs.Make.{stopped}
use Rattle.caf_cli.proofs.making.sizes.Given as goal

-- what the files before come to
abbrev pub invariant-loop-file : goal.invariant-loop-file
invariant-loop-file l = record {
  bytes : l.bytes ≡ stopped (sum_by (λ (file : List ℕ). length file) (take l.file-index l.files));
  lines : l.lines ≡ stopped (sum_by (λ (file : List ℕ). count_by is_line_end file) (take l.file-index l.files));
  chunks : l.chunk_count ≡ stopped (sum_by (λ (file : List ℕ). length (chunks_of file)) (take l.file-index l.files));
}
