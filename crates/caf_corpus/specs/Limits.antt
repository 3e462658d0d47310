-- Where a line or the corpus has more bytes than it may have.
use Rattle.std.specs.Prelude.{◌≡◌, ℕ, ◌+◌, ◌<◌, ◌≤◌, ◌==◌, Bool, not, List, length, take, if◌then◌else◌}
use Rattle.std.specs.List.{count_by, suffix_len}
use Rattle.caf_corpus.specs.declared.scan.TheConstants.{LONGEST_LINE, LARGEST_CORPUS}
use Rattle.caf_corpus.specs.declared.scan.Spot.{Spot}
use Rattle.caf_corpus.specs.declared.scan.Passed.{Passed}
use Rattle.caf_corpus.specs.declared.scan.Passed.TheVariants.{Line, Corpus}

-- the byte that ends a line
abbrev pub is_line_end : ℕ → Bool
is_line_end byte = byte == 10

-- the line, counted from 1, of the byte behind these bytes
abbrev pub line_behind : List ℕ → ℕ
line_behind bytes = 1 + count_by is_line_end bytes

-- how many of these bytes stand in that line
abbrev pub filled_behind : List ℕ → ℕ
filled_behind bytes = suffix_len (λ byte. not (is_line_end byte)) bytes

-- neither its line nor the corpus is full where byte k of the file comes; the files before it have so many bytes
abbrev pub IsFine : (before : ℕ) (file : List ℕ) (k : ℕ) → Type 0
IsFine before file k = (filled_behind (take k file) < LONGEST_LINE) × (before + k < LARGEST_CORPUS)

-- byte k of the file, which stands in that line, is one that its line, or else the corpus, may not have
abbrev pub PassesAt : (before : ℕ) (file : List ℕ) (k : ℕ) → Passed → Type 0
PassesAt before file k (Line line) = (LONGEST_LINE ≤ filled_behind (take k file)) × (line ≡ line_behind (take k file))
PassesAt before file k (Corpus line) =
    (filled_behind (take k file) < LONGEST_LINE) × (LARGEST_CORPUS ≤ before + k) × (line ≡ line_behind (take k file))

-- in the file that limit is passed, at that line, and none before
pub record IsFirst (before : ℕ) (file : List ℕ) (passed : Passed) : Type 0 where
  pub at : ℕ
  pub inside : at < length file
  pub passes : PassesAt before file at passed
  pub fine : (k : ℕ) → k < at → IsFine before file k

-- each line has, with its line end, no more bytes than a line may have
abbrev pub HasShortLines : (file : List ℕ) → Type 0
HasShortLines file = (k : ℕ) → k < length file → filled_behind (take k file) < LONGEST_LINE

-- ---- the program's own count

-- the spot is the one behind these bytes
pub record IsAt (bytes : List ℕ) (spot : Spot) : Type 0 where
  pub line : spot.line ≡ line_behind bytes
  pub filled : spot.filled ≡ filled_behind bytes

-- the spot behind one more byte
abbrev pub behind : Spot → ℕ → Spot
behind spot byte = if is_line_end byte then record { line = spot.line + 1; filled = 0 } else record { line = spot.line; filled = spot.filled + 1 }

-- the spot is the one behind these bytes, which pass no limit
pub record IsScanned (before : ℕ) (bytes : List ℕ) (spot : Spot) : Type 0 where
  pub at : IsAt bytes spot
  pub fine : (k : ℕ) → k < length bytes → IsFine before bytes k
