-- The chunks of a file: whole lines, as many as go into 16,384 bytes, or one that is longer.
use Rattle.std.specs.Prelude.{◌≡◌, ℕ, zero, suc, ◌+◌, ◌-◌, ◌<◌, ◌≤◌, nat_le, false, if◌then◌else◌, List, [], ◌∷◌, length, take, drop, flat_map, sum_by, count_by, slice_index, All, ◌⊎◌}
use Rattle.caf_index.specs.Words.{is_line_end, words_within, words_of}
use Rattle.caf_index.specs.declared.chunk.Chunk.{Chunk}

-- a byte before the first of some lines
abbrev pub before_lines : ℕ → List (List ℕ) → List (List ℕ)
before_lines byte [] = (byte ∷ []) ∷ []
before_lines byte (line ∷ lines) = (byte ∷ line) ∷ lines

-- the lines of a file, each with the byte 10 that ends it, which the last need not have
abbrev pub lines_of : List ℕ → List (List ℕ)
lines_of [] = []
lines_of (byte ∷ bytes) = if is_line_end byte then (byte ∷ []) ∷ lines_of bytes else before_lines byte (lines_of bytes)

-- the first of them
abbrev pub first_line : List ℕ → List ℕ
first_line [] = []
first_line (byte ∷ bytes) = if is_line_end byte then byte ∷ [] else byte ∷ first_line bytes

-- how many bytes the lines have together
abbrev pub size_of : List (List ℕ) → ℕ
size_of lines = sum_by length lines

-- how many of the lines, from the first on, go into a chunk that has that many bytes already
abbrev pub lines_after : ℕ → List (List ℕ) → ℕ
lines_after size [] = 0
lines_after size (line ∷ lines) = if nat_le (size + length line) 16384 then suc (lines_after (size + length line) lines) else 0

-- The chunks that begin in the lines, of which the first has that number and begins at that offset,
-- and the first `inside` go into a chunk that began before them. At each line that is in no chunk
-- yet a chunk begins: it has that line, and those after it that go into it.
abbrev pub chunks_within : ℕ → ℕ → ℕ → List (List ℕ) → List Chunk
chunks_within inside number from [] = []
chunks_within (suc inside) number from (line ∷ lines) = chunks_within inside (number + 1) (from + length line) lines
chunks_within zero number from (line ∷ lines) =
    record { line = number; from = from; to = from + length line + size_of (take (lines_after (length line) lines) lines) }
    ∷ chunks_within (lines_after (length line) lines) (number + 1) (from + length line) lines

-- the chunks of a file
abbrev pub chunks_of : List ℕ → List Chunk
chunks_of bytes = chunks_within 0 1 0 (lines_of bytes)

-- the bytes of a chunk, in its file
abbrev pub chunk_bytes : List ℕ → Chunk → List ℕ
chunk_bytes bytes chunk = take (chunk.to - chunk.from) (drop chunk.from bytes)

-- ---- what is said of them

-- joined, they are the file
abbrev pub ChunksJoin : Type 0
ChunksJoin = (bytes : List ℕ) → flat_map (chunk_bytes bytes) (chunks_of bytes) ≡ bytes

-- a chunk has bytes, begins where the file does or behind a line end, in the line of its number, and
-- ends behind a line end or where the file does
pub record IsWholeLines (bytes : List ℕ) (chunk : Chunk) : Type 0 where
  pub some : chunk.from < chunk.to
  pub within : chunk.to ≤ length bytes
  pub begins : (chunk.from ≡ 0) ⊎ (slice_index bytes (chunk.from - 1) ≡ 10)
  pub number : chunk.line ≡ 1 + count_by is_line_end (take chunk.from bytes)
  pub ends : (chunk.to ≡ length bytes) ⊎ (slice_index bytes (chunk.to - 1) ≡ 10)

abbrev pub ChunksAreWholeLines : Type 0
ChunksAreWholeLines = (bytes : List ℕ) → All (IsWholeLines bytes) (chunks_of bytes)

-- a chunk has at most 16,384 bytes or is one line, and with the next line it would have more
pub record IsLongest (bytes : List ℕ) (chunk : Chunk) : Type 0 where
  pub fits : (chunk.to - chunk.from ≤ 16384) ⊎ (chunk_bytes bytes chunk ≡ first_line (drop chunk.from bytes))
  pub full : chunk.to < length bytes → 16384 < chunk.to - chunk.from + length (first_line (drop chunk.to bytes))

abbrev pub ChunksAreLongest : Type 0
ChunksAreLongest = (bytes : List ℕ) → All (IsLongest bytes) (chunks_of bytes)

-- the words of all chunks, each with its line, counted from the number of the chunk's first, are those
-- of the file
abbrev pub ChunksKeepWords : Type 0
ChunksKeepWords = (bytes : List ℕ) → flat_map (λ chunk. words_within false chunk.line (chunk_bytes bytes chunk)) (chunks_of bytes) ≡ words_of bytes
