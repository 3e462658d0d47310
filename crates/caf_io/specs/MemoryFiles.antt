-- What files in memory show.
use Rattle.std.specs.Prelude.{◌≡◌, ◌⊎◌, IsNone, ℕ, List, map, string_bytes, Bool}
use Rattle.std.specs.Ordering.{nat_cmp}
use Rattle.std.specs.Option.{option_map_or}
use Rattle.std.specs.BTreeMap.{get_by_text}
use Rattle.std.specs.BTreeSet.{contains}
use Rattle.std.specs.FinMap as finite
use Rattle.caf_io.specs.Files.{Content}
use Rattle.caf_io.specs.declared.memory_files.MemoryFile.{MemoryFile}
use Rattle.caf_io.specs.declared.memory_files.MemoryFiles.{MemoryFiles}

-- the bytes of one file
abbrev pub bytes_in : MemoryFile → List ℕ
bytes_in file = file.bytes.items

-- the content that they hold
abbrev pub content : MemoryFiles → Content
content files = finite.from_entries (map (λ entry. (string_bytes entry.0, bytes_in entry.1)) files.files.entries)

-- the count of the file of this name, or that of all absent names
abbrev pub fault_count : MemoryFiles → (name : List ℕ) → ℕ
fault_count files name = option_map_or (λ file. file.faults) (get_by_text files.files name) files.absent

-- how many calls of `read` there were
abbrev pub call_count : MemoryFiles → ℕ
call_count files = files.calls

-- whether the call of this number is to fail
abbrev pub fails_at : MemoryFiles → (call : ℕ) → Bool
fails_at files call = contains nat_cmp files.failing call

-- two names that have one count: they are the same, or both absent
abbrev pub SharesCount : MemoryFiles → (name other : List ℕ) → Type 0
SharesCount files name other = (name ≡ other) ⊎ (IsNone (get_by_text files.files name) × IsNone (get_by_text files.files other))
