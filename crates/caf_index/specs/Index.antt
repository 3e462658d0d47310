-- An index as a value: a finite map from words to finite maps from file numbers to sets of line
-- numbers. A set is a finite map with nothing at each key.
use Rattle.std.specs.Prelude.{ℕ, Bool, List, [], ◌∷◌, String, string_bytes, sum_by, unwrap_or, IsTrue}
use Rattle.std.specs.Ordering.{nat_cmp}
use Rattle.std.specs.Cmp.Lexicographic.{slice_cmp}
use Rattle.std.specs.FinMap as map

abbrev pub Lines : Type 0
Lines = map.FinMap nat_cmp (Unit {0})

abbrev pub Files : Type 0
Files = map.FinMap nat_cmp Lines

-- words are compared byte by byte
abbrev pub Entries : Type 0
Entries = map.FinMap (slice_cmp nat_cmp) Files

-- the files that have the word, each with its lines
abbrev pub files_of : Entries → List ℕ → Files
files_of index word = unwrap_or (map.get index word) map.empty

-- the lines of a file, of those that have a word
abbrev pub lines_in : Files → ℕ → Lines
lines_in files file = unwrap_or (map.get files file) map.empty

abbrev pub has_entry : Entries → List ℕ → ℕ → ℕ → Bool
has_entry index word file line = map.contains_key (lines_in (files_of index word) file) line

-- the index has the entry (word, file number, line number)
abbrev pub HasEntry : Entries → List ℕ → ℕ → ℕ → Type 0
HasEntry index word file line = IsTrue (has_entry index word file line)

-- the files with one line more, of that file
abbrev pub with_line : Files → ℕ → ℕ → Files
with_line files file line = map.insert files file (map.insert (lines_in files file) line tt)

-- the index with that entry
abbrev pub with_entry : Entries → List ℕ → ℕ → ℕ → Entries
with_entry index word file line = map.insert index word (with_line (files_of index word) file line)

-- how many lines the files have together
abbrev pub line_count : Files → ℕ
line_count files = sum_by (λ file. map.len file.1) (map.entries files)

-- how many entries the index has
abbrev pub entry_count : Entries → ℕ
entry_count index = sum_by (λ word. line_count word.1) (map.entries index)

-- the index of rows, each a word with its files; of two rows of one word the first counts
abbrev pub index_of_rows : {Y : Type 0} → List (String Y × Files) → Entries
index_of_rows [] = map.empty
index_of_rows (row ∷ rows) = map.insert (index_of_rows rows) (string_bytes row.0) row.1
