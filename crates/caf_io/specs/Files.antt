-- What files tell of their content, and what a read gives of it.
use Rattle.std.specs.Prelude.{◌≡◌, ℕ, List, length, take, drop, Option, None, Some, IsSome}
use Rattle.std.specs.Ordering.{nat_cmp}
use Rattle.std.specs.Cmp.Lexicographic.{slice_cmp}
use Rattle.std.specs.FinMap as map

-- files as a finite map from names, seen as the bytes of their texts, to their bytes
abbrev pub Content : Type 0
Content = map.FinMap (slice_cmp nat_cmp) (List ℕ)

-- the bytes of the file, where content is told and the file is there
abbrev pub told_file : Option Content → (name : List ℕ) → Option (List ℕ)
told_file None name = None
told_file (Some files) name = map.get files name

-- where content is told, the file is there
abbrev pub IsThere : Option Content → (name : List ℕ) → Type 0
IsThere None name = Unit {0}
IsThere (Some files) name = IsSome (map.get files name)

-- the bytes are the next ones of the file from this position on
abbrev pub AreNext : (file : List ℕ) (from : ℕ) (bytes : List ℕ) → Type 0
AreNext file from bytes = bytes ≡ take (length bytes) (drop from file)
