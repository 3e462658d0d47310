-- The postings of bytes: which word stands in which line, by word, then by line, each pair once.
use Rattle.std.specs.Prelude.{ℕ, ◌-◌, ◌^◌, ◌<◌, ◌↔◌, ◌≡◌, min, false, List, [], ◌∷◌, length, map, Contains}
use Rattle.std.specs.Ordering.{nat_cmp, ordering_then}
use Rattle.std.specs.declared.cmp.Ordering.{Ordering}
use Rattle.std.specs.Cmp.Lexicographic.{slice_cmp}
use Rattle.std.specs.FinMap.Entries.{by_order}
use Rattle.caf_index.specs.Words.{lower_case, words_within, StandsWithin, StandsIn}
use Rattle.caf_index.specs.Chunks.{chunks_of, chunk_bytes}
use Rattle.caf_index.specs.declared.chunk.Chunk.{Chunk}
use Rattle.caf_index.specs.declared.posting.Posting.{Posting}

-- that the word stands in that line
abbrev pub posting_at : List ℕ → ℕ → Posting
posting_at word line = record { word = word; line = line }

-- a word with its line; numbers stop at 2^64 - 1
abbrev pub stopped : List ℕ × ℕ → Posting
stopped word = posting_at word.0 (min word.1 (2 ^ 64 - 1))

-- the words of bytes whose first line has that number, in order, each with its line
abbrev pub words_from : ℕ → List ℕ → List Posting
words_from line bytes = map stopped (words_within false line bytes)

-- by word, byte by byte, then by line
abbrev pub posting_cmp : Posting → Posting → Ordering
posting_cmp a b = ordering_then (slice_cmp nat_cmp a.word b.word) (nat_cmp a.line b.line)

-- a key put at its place among keys in order, unless it is there
abbrev pub put_once : {K : Type 0} → (K → K → Ordering) → K → List K → List K
put_once cmp key [] = key ∷ []
put_once cmp key (k ∷ ks) = by_order (cmp key k) (key ∷ k ∷ ks) (k ∷ ks) (k ∷ put_once cmp key ks)

-- the keys in order, each once
abbrev pub sorted_once : {K : Type 0} → (K → K → Ordering) → List K → List K
sorted_once cmp [] = []
sorted_once cmp (key ∷ keys) = put_once cmp key (sorted_once cmp keys)

-- the postings of bytes whose first line has that number
abbrev pub postings_of : ℕ → List ℕ → List Posting
postings_of line bytes = sorted_once posting_cmp (words_from line bytes)

-- the posting's word stands in the bytes, whose first line has that number, in the line of its number
pub record IsPostingOf (first : ℕ) (bytes : List ℕ) (posting : Posting) : Type 0 where
  pub line : ℕ
  pub stands : StandsWithin false first bytes posting.word line
  pub stopped : posting.line ≡ min line (2 ^ 64 - 1)

-- ---- what is said of them

-- bytes in lower case have the postings that the bytes have
abbrev pub LowerCaseKeepsPostings : Type 0
LowerCaseKeepsPostings = (line : ℕ) (bytes : List ℕ) → postings_of line (map lower_case bytes) ≡ postings_of line bytes

-- the posting is one of a chunk of the file, counted from the number of the chunk's first line
pub record IsInAChunk (bytes : List ℕ) (posting : Posting) : Type 0 where
  pub chunk : Chunk
  pub is_chunk : Contains (chunks_of bytes) chunk
  pub listed : Contains (postings_of chunk.line (chunk_bytes bytes chunk)) posting

-- the postings of the chunks of a file say which word stands in which line of it
abbrev pub ChunkPostingsAreThePlainOnes : Type 0
ChunkPostingsAreThePlainOnes = (bytes word : List ℕ) (line : ℕ) → length bytes < 2 ^ 64 → IsInAChunk bytes (posting_at word line) ↔ StandsIn bytes word line
