-- The chunks of all files.
use Rattle.std.specs.Prelude.{◌≡◌, ℕ, ◌+◌, ◌-◌, ◌<◌, ◌≤◌, true, List, [], ◌∷◌, ◌++◌, length, slice_get, All}
use Rattle.std.specs.Option.{unwrap_or}
use Rattle.std.specs.List.{AllByRecursion}
use Rattle.caf_words.specs.Datum.{is_in_range, are_bytes}
use Rattle.caf_index.specs.Chunks.{chunks_of, chunk_bytes}
use Rattle.caf_index.specs.declared.chunk.Chunk.{Chunk as Span}
use Rattle.caf_kinds.specs.Contents.{chunk_means}
use Rattle.caf_kinds.specs.declared.contents.Chunk.{Chunk}
use Rattle.caf_kinds.specs.declared.file_chunks.ChunkPlace.{ChunkPlace}

-- a chunk of a file, with its bytes: the file's number, and the chunk's
abbrev pub chunk_at : ℕ → ℕ → List ℕ → Span → Chunk
chunk_at file number bytes span = record { file = file; number = number; line = span.line; bytes = chunk_bytes bytes span }

-- the chunks of a file, the first of which has that number
abbrev pub chunks_numbered : ℕ → ℕ → List ℕ → List Span → List Chunk
chunks_numbered file number bytes [] = []
chunks_numbered file number bytes (span ∷ spans) = chunk_at file number bytes span ∷ chunks_numbered file (number + 1) bytes spans

-- the chunks of some files: the numbers are those of the first file and of its first chunk
abbrev pub chunks_from : ℕ → ℕ → List (List ℕ) → List Chunk
chunks_from file number [] = []
chunks_from file number (bytes ∷ files) = chunks_numbered file number bytes (chunks_of bytes) ++ chunks_from (file + 1) (number + length (chunks_of bytes)) files

-- all chunks, numbered from 0 in the order of the files, which are numbered from 1
abbrev pub all_chunks : List (List ℕ) → List Chunk
all_chunks files = chunks_from 1 0 files

-- the chunk's numbers are below 2^64, its bytes are bytes, and it has no more of them than a line may have
pub record IsChunk (c : Chunk) : Type 0 where
  pub range : is_in_range (chunk_means c) ≡ true
  pub short : length c.bytes ≤ 1048576

abbrev pub AreChunks : List Chunk → Type 0
AreChunks cs = AllByRecursion IsChunk cs

-- what files have is bytes
abbrev pub AreByteLists : List (List ℕ) → Type 0
AreByteLists files = All (λ (bytes : List ℕ). are_bytes bytes ≡ true) files

-- ---- chunks by the places where they stand

abbrev pub file_at : List (List ℕ) → ℕ → List ℕ
file_at files file = unwrap_or (slice_get files (file - 1)) []

abbrev pub chunk_in : List (List ℕ) → ChunkPlace → Chunk
chunk_in files p = chunk_at p.file p.number (file_at files p.file) p.span

-- the place is one in the files
pub record IsPlaceIn (files : List (List ℕ)) (p : ChunkPlace) : Type 0 where
  pub from_one : 0 < p.file
  pub is_file : p.file - 1 < length files
  pub begins : p.span.from ≤ p.span.to
  pub ends : p.span.to ≤ length (file_at files p.file)
  pub chunk : IsChunk (chunk_in files p)

abbrev pub places_numbered : ℕ → ℕ → List Span → List ChunkPlace
places_numbered file number [] = []
places_numbered file number (span ∷ spans) = record { file = file; number = number; span = span } ∷ places_numbered file (number + 1) spans

abbrev pub places_from : ℕ → ℕ → List (List ℕ) → List ChunkPlace
places_from file number [] = []
places_from file number (bytes ∷ files) = places_numbered file number (chunks_of bytes) ++ places_from (file + 1) (number + length (chunks_of bytes)) files
