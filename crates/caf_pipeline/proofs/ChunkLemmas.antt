-- The chunks of all files: each is one of a file, and each one of a file is among them.
use Rattle.std.proofs.Common.{◌≡◌, ℕ, zero, suc, ◌+◌, List, [], ◌∷◌, length, Some, inl, inr, refl, sym, subst, ap, arith}
use Rattle.std.specs.Prelude.{slice_get, Contains}
use Rattle.std.proofs.lemmas.List.Elements.{Contains-append_left, Contains-append_right, Contains-append_cases}
use Rattle.caf_index.specs.Chunks.{chunks_of, chunk_bytes}
use Rattle.caf_index.specs.declared.chunk.Chunk.{Chunk as Span}
use Rattle.caf_index.proofs.ContainsLemmas.{contains-none, contains-here, contains-later, contains-cases}
use Rattle.caf_kinds.specs.FileChunks.{chunk_at, chunks_numbered, chunks_from}
use Rattle.caf_kinds.specs.declared.contents.Chunk.{Chunk}

-- ---- of one file

pub record IsOneOf (file : ℕ) (bytes : List ℕ) (spans : List Span) (c : Chunk) : Type 0 where
  pub span : Span
  pub there : Contains spans span
  pub file_is : c.file ≡ file
  pub line_is : c.line ≡ span.line
  pub bytes_are : c.bytes ≡ chunk_bytes bytes span

of_numbered : (file number : ℕ) (bytes : List ℕ) (spans : List Span) (c : Chunk) → Contains (chunks_numbered file number bytes spans) c → IsOneOf file bytes spans c
of_numbered file number bytes [] c has = absurd (contains-none c has)
of_numbered file number bytes (span ∷ spans) c has = elim (contains-cases (chunk_at file number bytes span) c (chunks_numbered file (number + 1) bytes spans) has) [
  | inl is ↦ record { span = span; there = contains-here span spans; file_is = sym (ap (λ (d : Chunk). d.file) is); line_is = sym (ap (λ (d : Chunk). d.line) is); bytes_are = sym (ap (λ (d : Chunk). d.bytes) is) }
  | inr later ↦ (let rest = of_numbered file (number + 1) bytes spans c later in
      record { span = rest.span; there = contains-later span rest.span spans rest.there; file_is = rest.file_is; line_is = rest.line_is; bytes_are = rest.bytes_are })
]

is_numbered : (file number : ℕ) (bytes : List ℕ) (spans : List Span) (span : Span) → Contains spans span → (n : ℕ) × Contains (chunks_numbered file number bytes spans) (chunk_at file n bytes span)
is_numbered file number bytes [] span has = absurd (contains-none span has)
is_numbered file number bytes (x ∷ xs) span has = elim (contains-cases x span xs has) [
  | inl is ↦ (number, subst (λ (y : Span). Contains (chunk_at file number bytes x ∷ chunks_numbered file (number + 1) bytes xs) (chunk_at file number bytes y)) is (contains-here (chunk_at file number bytes x) (chunks_numbered file (number + 1) bytes xs)))
  | inr later ↦ (let rest = is_numbered file (number + 1) bytes xs span later in
      (rest.0, contains-later (chunk_at file number bytes x) (chunk_at file rest.0 bytes span) (chunks_numbered file (number + 1) bytes xs) rest.1))
]

-- ---- of all files

pub record IsOfFile (file : ℕ) (files : List (List ℕ)) (c : Chunk) : Type 0 where
  pub before : ℕ
  pub bytes : List ℕ
  pub is_file : slice_get files before ≡ Some bytes
  pub one : IsOneOf (file + before) bytes (chunks_of bytes) c

pub of_files : (file number : ℕ) (files : List (List ℕ)) (c : Chunk) → Contains (chunks_from file number files) c → IsOfFile file files c
of_files file number [] c has = absurd (contains-none c has)
of_files file number (bytes ∷ files) c has =
    elim (Contains-append_cases (chunks_numbered file number bytes (chunks_of bytes)) (chunks_from (file + 1) (number + length (chunks_of bytes)) files) c has) [
      | inl here ↦ record { before = 0; bytes = bytes; is_file = refl; one = subst (λ (f : ℕ). IsOneOf f bytes (chunks_of bytes) c) (let same : file ≡ file + 0 = omega arith in same) (of_numbered file number bytes (chunks_of bytes) c here) }
      | inr later ↦ (let rest = of_files (file + 1) (number + length (chunks_of bytes)) files c later in
          record { before = suc rest.before; bytes = rest.bytes; is_file = rest.is_file; one = subst (λ (f : ℕ). IsOneOf f rest.bytes (chunks_of rest.bytes) c) (let same : file + 1 + rest.before ≡ file + suc rest.before = omega arith in same) rest.one })
    ]

pub in_files : (file number : ℕ) (files : List (List ℕ)) (before : ℕ) (bytes : List ℕ) (span : Span) → slice_get files before ≡ Some bytes → Contains (chunks_of bytes) span
    → (n : ℕ) × Contains (chunks_from file number files) (chunk_at (file + before) n bytes span)
in_files file number [] before bytes span is has = absurd cc
in_files file number (x ∷ xs) zero bytes span is has =
    let same : x ≡ bytes = cc in
    let here : file ≡ file + 0 = omega arith in
    let one = is_numbered file number x (chunks_of x) span (subst (λ (b : List ℕ). Contains (chunks_of b) span) (sym same) has) in (
      one.0,
      Contains-append_left (chunks_numbered file number x (chunks_of x)) (chunks_from (file + 1) (number + length (chunks_of x)) xs) (chunk_at (file + 0) one.0 bytes span)
          (subst (λ (f : ℕ). Contains (chunks_numbered file number x (chunks_of x)) (chunk_at f one.0 bytes span)) here (subst (λ (b : List ℕ). Contains (chunks_numbered file number x (chunks_of x)) (chunk_at file one.0 b span)) same one.1)),
    )
in_files file number (x ∷ xs) (suc before) bytes span is has =
    let rest = in_files (file + 1) (number + length (chunks_of x)) xs before bytes span is has in
    let there : file + 1 + before ≡ file + suc before = omega arith in (
      rest.0,
      Contains-append_right (chunks_numbered file number x (chunks_of x)) (chunks_from (file + 1) (number + length (chunks_of x)) xs) (chunk_at (file + suc before) rest.0 bytes span)
          (subst (λ (f : ℕ). Contains (chunks_from (file + 1) (number + length (chunks_of x)) xs) (chunk_at f rest.0 bytes span)) there rest.1),
    )
