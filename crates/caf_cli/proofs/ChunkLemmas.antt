-- Files have no more chunks than bytes.
use Rattle.std.proofs.Common.{◌≡◌, ℕ, zero, suc, ◌+◌, ◌<◌, ◌≤◌, ◌^◌, Bool, true, false, List, [], ◌∷◌, ◌++◌, length, refl, arith}
use Rattle.std.specs.Prelude.{if◌then◌else◌}
use Rattle.std.specs.List.{All, AllByRecursion, sum_by}
use Rattle.std.proofs.lemmas.List.{length-append}
use Rattle.std.proofs.lemmas.List.Sums.{sum_by-cons}
use Rattle.caf_corpus.specs.Corpus.{IsWithin}
use Rattle.caf_index.specs.Chunks.{before_lines, lines_of, chunks_within, chunks_of, lines_after}
use Rattle.caf_index.specs.Words.{is_line_end}
use Rattle.caf_index.specs.declared.chunk.Chunk.{Chunk as Span}
use Rattle.caf_kinds.specs.FileChunks.{chunks_numbered, chunks_from, all_chunks, AreByteLists}
use Rattle.caf_pipeline.specs.Contents.{AreIndexable}
use Rattle.caf_cli.proofs.LinesLemmas.{within_is_short}

before_few : (byte : ℕ) (lines : List (List ℕ)) → length (before_lines byte lines) ≤ length lines + 1
before_few byte [] = omega arith
before_few byte (line ∷ lines) = omega arith

one_line_more : (byte : ℕ) (bytes : List ℕ) (lines : List (List ℕ)) → length lines ≤ length bytes → (b : Bool)
    → length (if b then (byte ∷ []) ∷ lines else before_lines byte lines) ≤ length bytes + 1
one_line_more byte bytes lines less true = omega (arith, less)
one_line_more byte bytes lines less false = (let one = before_few byte lines in omega (arith, less, one))

lines_few : (bytes : List ℕ) → length (lines_of bytes) ≤ length bytes
lines_few [] = omega arith
lines_few (byte ∷ bytes) = (let more = one_line_more byte bytes (lines_of bytes) (lines_few bytes) (is_line_end byte) in omega (arith, more))

within_few : (inside number from : ℕ) (lines : List (List ℕ)) → length (chunks_within inside number from lines) ≤ length lines
within_few inside number from [] = omega arith
within_few (suc inside) number from (line ∷ lines) = (let less = within_few inside (number + 1) (from + length line) lines in omega (arith, less))
within_few zero number from (line ∷ lines) = (let less = within_few (lines_after (length line) lines) (number + 1) (from + length line) lines in omega (arith, less))

numbered_count : (file number : ℕ) (bytes : List ℕ) (spans : List Span) → length (chunks_numbered file number bytes spans) ≡ length spans
numbered_count file number bytes [] = omega arith
numbered_count file number bytes (span ∷ spans) = (let rest = numbered_count file (number + 1) bytes spans in omega (arith, rest))

from_few : (file number : ℕ) (files : List (List ℕ)) → length (chunks_from file number files) ≤ sum_by (λ (bytes : List ℕ). length bytes) files
from_few file number [] = omega arith
from_few file number (bytes ∷ files) =
    let here = numbered_count file number bytes (chunks_of bytes) in
    let chunks = within_few 0 1 0 (lines_of bytes) in
    let lines = lines_few bytes in
    let rest = from_few (file + 1) (number + length (chunks_of bytes)) files in
    let both = length-append (chunks_numbered file number bytes (chunks_of bytes)) (chunks_from (file + 1) (number + length (chunks_of bytes)) files) in
    let all : sum_by (λ (bs : List ℕ). length bs) (bytes ∷ files) ≡ length bytes + sum_by (λ (bs : List ℕ). length bs) files = sum_by-cons (λ (bs : List ℕ). length bs) bytes files in
    let whole : length (chunks_from file number (bytes ∷ files)) ≡ length (chunks_numbered file number bytes (chunks_of bytes) ++ chunks_from (file + 1) (number + length (chunks_of bytes)) files) = refl in
    omega (arith, here, chunks, lines, rest, both, all, whole)

pub within_is_indexable : (files : List (List ℕ)) → IsWithin files → AreByteLists files → length files < 2 ^ 64 → AreIndexable files
within_is_indexable files within bytes few =
    let count = from_few 1 0 files in
    let all = within.bytes in
    record { bytes = bytes; short = within_is_short files within; few = few; few_chunks = omega (arith, count, all) }
