-- The text of an index, for the names of the files.
use Rattle.std.specs.Prelude.{ℕ, zero, suc, List, [], ◌∷◌, ◌++◌, Option, None, Some, flat_map, decimal, slice_get}
use Rattle.std.specs.FinMap as map
use Rattle.caf_index.specs.Index.{Entries, Files}

-- the name of the file of that number; files are numbered from 1
abbrev pub name_of : List (List ℕ) → ℕ → Option (List ℕ)
name_of names zero = None
name_of names (suc before) = slice_get names before

-- a space and the number
abbrev pub number_text : ℕ → List ℕ
number_text line = 32 ∷ decimal line

-- two spaces, the name, `:`, the line numbers and byte 10; nothing where there is no line or no such file
abbrev pub file_text : Option (List ℕ) → List ℕ → List ℕ
file_text None lines = []
file_text (Some name) [] = []
file_text (Some name) (line ∷ lines) = 32 ∷ 32 ∷ (name ++ 58 ∷ (flat_map number_text (line ∷ lines) ++ 10 ∷ []))

-- the texts of the files that have a word, in order of their numbers
abbrev pub files_text : List (List ℕ) → Files → List ℕ
files_text names files = flat_map (λ file. file_text (name_of names file.0) (map.keys file.1)) (map.entries files)

-- the word and byte 10 before the texts of its files; nothing where these are nothing
abbrev pub under_word : List ℕ → List ℕ → List ℕ
under_word word [] = []
under_word word (byte ∷ text) = (word ++ 10 ∷ []) ++ byte ∷ text

-- the words in byte order, each with its files
abbrev pub index_text_of : List (List ℕ) → Entries → List ℕ
index_text_of names index = flat_map (λ word. under_word word.0 (files_text names word.1)) (map.entries index)
