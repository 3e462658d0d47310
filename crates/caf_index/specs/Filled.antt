-- Indexes that are filled entry by entry.
use Rattle.std.specs.Prelude.{◌≡◌, ℕ, ◌-◌, ◌^◌, ◌<◌, ◌↔◌, List, [], ◌∷◌, length, Some, slice_get, All, Contains}
use Rattle.std.specs.FinMap as map
use Rattle.caf_index.specs.Index.{Entries, with_entry}
use Rattle.caf_index.specs.PlainIndex.{StandsInFile, plain_index_of}
use Rattle.caf_index.specs.IndexText.{index_text_of}
use Rattle.caf_index.specs.Postings.{posting_at, IsInAChunk}

-- that the word stands in that line of that file
pub record Entry : Type 0 where
  pub word : List ℕ
  pub file : ℕ
  pub line : ℕ

-- the index with more entries, put in one after another
abbrev pub with_entries : Entries → List Entry → Entries
with_entries index [] = index
with_entries index (e ∷ es) = with_entries (with_entry index e.word e.file e.line) es

-- an index that was filled with these entries, in this order
abbrev pub filled_with : List Entry → Entries
filled_with es = with_entries map.empty es

-- two lists have the same entries, in whatever order and however often each
abbrev pub HaveTheSame : List Entry → List Entry → Type 0
HaveTheSame es fs = (e : Entry) → Contains es e ↔ Contains fs e

-- the list has exactly the entries of the plain index of the files
abbrev pub AreThePlainOnes : List (List ℕ) → List Entry → Type 0
AreThePlainOnes files es = (e : Entry) → Contains es e ↔ StandsInFile files e.word e.file e.line

-- the entry is a posting of a chunk of its file: files are numbered from 1
pub record IsFromAChunk (files : List (List ℕ)) (e : Entry) : Type 0 where
  pub from_one : 0 < e.file
  pub bytes : List ℕ
  pub is_file : slice_get files (e.file - 1) ≡ Some bytes
  pub posting : IsInAChunk bytes (posting_at e.word e.line)

-- ---- what is said of them

-- indexes filled with the same entries are one index
abbrev pub SameEntriesSameIndex : Type 0
SameEntriesSameIndex = (es fs : List Entry) → HaveTheSame es fs → filled_with es ≡ filled_with fs

-- an index filled with the entries of the plain index is the plain index
abbrev pub FilledIsPlain : Type 0
FilledIsPlain = (files : List (List ℕ)) (es : List Entry) → AreThePlainOnes files es → filled_with es ≡ plain_index_of files

-- and its text is the text of the plain index
abbrev pub FilledTextIsPlain : Type 0
FilledTextIsPlain = (names files : List (List ℕ)) (es : List Entry) → AreThePlainOnes files es → index_text_of names (filled_with es) ≡ index_text_of names (plain_index_of files)

-- an index filled with the postings of all chunks of some files is their plain index
abbrev pub PostingsFillThePlainIndex : Type 0
PostingsFillThePlainIndex = (files : List (List ℕ)) (es : List Entry) → All (λ bytes. length bytes < 2 ^ 64) files → ((e : Entry) → Contains es e ↔ IsFromAChunk files e) → filled_with es ≡ plain_index_of files
