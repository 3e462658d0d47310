-- The plain index of a list of files: which word stands in which line of which file.
use Rattle.std.specs.Prelude.{◌≡◌, ℕ, ◌+◌, ◌-◌, ◌<◌, List, [], ◌∷◌, Some, slice_get}
use Rattle.std.specs.FinMap as map
use Rattle.caf_index.specs.Words.{StandsIn, words_of}
use Rattle.caf_index.specs.Index.{Entries, with_entry}

-- the word stands in that line of that file: files are numbered from 1
pub record StandsInFile (files : List (List ℕ)) (word : List ℕ) (file line : ℕ) : Type 0 where
  pub from_one : 0 < file
  pub bytes : List ℕ
  pub is_file : slice_get files (file - 1) ≡ Some bytes
  pub stands : StandsIn bytes word line

-- the index with the words of one file, each with its line
abbrev pub with_words : Entries → ℕ → List (List ℕ × ℕ) → Entries
with_words index file [] = index
with_words index file (word ∷ words) = with_words (with_entry index word.0 file word.1) file words

-- the index with the words of each of the files, the first of which has that number
abbrev pub with_files : Entries → ℕ → List (List ℕ) → Entries
with_files index file [] = index
with_files index file (bytes ∷ files) = with_files (with_words index file (words_of bytes)) (file + 1) files

-- the index whose entries are exactly those of `StandsInFile`
abbrev pub plain_index_of : List (List ℕ) → Entries
plain_index_of files = with_files map.empty 1 files
