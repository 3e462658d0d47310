-- The generated files: numbers that follow from one another, a word for each, eight words a line, a
-- thousand lines a file.
use Rattle.std.specs.Prelude.{ℕ, zero, suc, ◌+◌, ◌-◌, ◌*◌, ◌/◌, ◌%◌, min, List, [], ◌∷◌, ◌++◌, map, flat_map, decimal}

-- the number of that index, counted from 0
abbrev pub number_at : ℕ → ℕ
number_at zero = 1
number_at (suc k) = (5 * number_at k + 3) % 65536

-- so many indices, from the first one on
abbrev pub span : ℕ → ℕ → List ℕ
span first zero = []
span first (suc count) = first ∷ span (first + 1) count

-- `w` and the last three decimal places of the number
abbrev pub word_at : ℕ → List ℕ
word_at k = 119 ∷ decimal (number_at k % 1000)

-- words with a space between each two
abbrev pub spaced : List (List ℕ) → List ℕ
spaced [] = []
spaced (word ∷ words) = word ++ flat_map (λ next. 32 ∷ next) words

-- the eight words of a line, and byte 10; lines are counted from 0, over all files
abbrev pub line_at : ℕ → List ℕ
line_at line = spaced (map word_at (span (8 * line) 8)) ++ 10 ∷ []

-- a file, counted from 0: the next thousand lines, or what is left of all of them
abbrev pub file_at : ℕ → ℕ → List ℕ
file_at lines file = flat_map line_at (span (1000 * file) (min 1000 (lines - 1000 * file)))

-- as many files as the lines take
abbrev pub files_of : ℕ → List (List ℕ)
files_of lines = map (file_at lines) (span 0 ((lines + 999) / 1000))
