-- What a corpus is of its files, and where the first limit is passed in them.
use Rattle.std.specs.Prelude.{◌≡◌, ℕ, ◌+◌, ◌≤◌, List, ◌∷◌, ◌++◌, length, Option, IfSome, All}
use Rattle.std.specs.List.{AllZip, sum_by}
use Rattle.caf_io.specs.Files.{Content, told_file, IsThere}
use Rattle.caf_corpus.specs.Limits.{HasShortLines, IsFirst}
use Rattle.caf_corpus.specs.declared.scan.TheConstants.{LARGEST_CORPUS}
use Rattle.caf_corpus.specs.declared.scan.Passed.{Passed}

-- where content is told, the bytes are those of the file of this name
abbrev pub IsFileOf : Option Content → (name bytes : List ℕ) → Type 0
IsFileOf told name bytes = IfSome (told_file told name) (λ file. bytes ≡ file)

-- no limit is passed: each line of each file keeps within its limit, and all files together within theirs
pub record IsWithin (corpus : List (List ℕ)) : Type 0 where
  pub lines : All HasShortLines corpus
  pub bytes : sum_by (λ (file : List ℕ). length file) corpus ≤ LARGEST_CORPUS

-- reading the files of these names in order, the limit is passed in the file of that number, counted from 1; in
-- those before it none is
pub record PassesFirst (told : Option Content) (names : List (List ℕ)) (number : ℕ) (passed : Passed) : Type 0 where
  -- the names before, that of the file, and those behind
  pub earlier : List (List ℕ)
  pub name : List ℕ
  pub later : List (List ℕ)
  pub split : names ≡ earlier ++ name ∷ later
  pub position : number ≡ length earlier + 1
  -- the files before, whole
  pub corpus : List (List ℕ)
  pub whole : AllZip (IsFileOf told) earlier corpus
  pub within : IsWithin corpus
  pub all_there : All (IsThere told) earlier
  -- the file itself
  pub is_there : IsThere told name
  pub first : IfSome (told_file told name) (λ file. IsFirst (sum_by (λ (file : List ℕ). length file) corpus) file passed)
