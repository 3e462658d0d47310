-- The lines and words of a file, which is any list of bytes.
use Rattle.std.specs.Prelude.{◌≡◌, ℕ, ◌+◌, ◌<◌, ◌==◌, nat_le, Bool, false, not, ◌&&◌, ◌||◌, if◌then◌else◌, List, [], ◌∷◌, ◌++◌, length, map, take_while, count_by, All, IsTrue}

-- byte 10 ends a line
abbrev pub is_line_end : ℕ → Bool
is_line_end byte = byte == 10

-- the bytes `0` to `9`, `A` to `Z` and `a` to `z` make words; every other byte separates them
abbrev pub is_word_byte : ℕ → Bool
is_word_byte byte = (nat_le 48 byte && nat_le byte 57) || (nat_le 65 byte && nat_le byte 90) || (nat_le 97 byte && nat_le byte 122)

-- `A` to `Z` are taken as `a` to `z`
abbrev pub lower_case : ℕ → ℕ
lower_case byte = if nat_le 65 byte && nat_le byte 90 then byte + 32 else byte

-- whether the first of the bytes is a word byte
abbrev pub begins_with_word_byte : List ℕ → Bool
begins_with_word_byte [] = false
begins_with_word_byte (byte ∷ bytes) = is_word_byte byte

-- whether the last of the bytes is a word byte; of no bytes, `otherwise`
abbrev pub ends_with_word_byte : Bool → List ℕ → Bool
ends_with_word_byte otherwise [] = otherwise
ends_with_word_byte otherwise (byte ∷ bytes) = ends_with_word_byte (is_word_byte byte) bytes

-- The word stands in the line of that number, in bytes whose first line has the number `first`,
-- and before which a word byte stands where `inside`: somewhere in the bytes is a run of word
-- bytes that no word byte touches, the word is that run in lower case, and as many line ends stand
-- before the run as the line is lines past the first.
pub record StandsWithin (inside : Bool) (first : ℕ) (bytes word : List ℕ) (line : ℕ) : Type 0 where
  pub before : List ℕ
  pub run : List ℕ
  pub after : List ℕ
  pub parts : bytes ≡ before ++ (run ++ after)
  pub has_bytes : 0 < length run
  pub has_word_bytes : All (λ byte. IsTrue (is_word_byte byte)) run
  pub none_before : ends_with_word_byte inside before ≡ false
  pub none_after : begins_with_word_byte after ≡ false
  pub is_word : word ≡ map lower_case run
  pub is_line : line ≡ first + count_by is_line_end before

-- the word stands in that line of the file: lines are numbered from 1
abbrev pub StandsIn : List ℕ → List ℕ → ℕ → Type 0
StandsIn bytes word line = StandsWithin false 1 bytes word line

-- the word that begins where the bytes do: their longest first run of word bytes, in lower case
abbrev pub first_word : List ℕ → List ℕ
first_word bytes = map lower_case (take_while is_word_byte bytes)

-- the line of the byte after this one, which stands in the given line
abbrev pub next_line : ℕ → ℕ → ℕ
next_line line byte = if is_line_end byte then line + 1 else line

-- The words that begin in the bytes, in order, each with its line. One begins at each word byte
-- that has no word byte before it.
abbrev pub words_within : Bool → ℕ → List ℕ → List (List ℕ × ℕ)
words_within inside line [] = []
words_within inside line (byte ∷ bytes) =
    (if is_word_byte byte && not inside then (first_word (byte ∷ bytes), line) ∷ [] else [])
    ++ words_within (is_word_byte byte) (next_line line byte) bytes

-- the words of a file, in order, each with its line
abbrev pub words_of : List ℕ → List (List ℕ × ℕ)
words_of bytes = words_within false 1 bytes

-- a word that ends here, in that line, where it has bytes
abbrev pub ended_word : List ℕ → ℕ → List (List ℕ × ℕ)
ended_word [] line = []
ended_word (byte ∷ word) line = (byte ∷ word, line) ∷ []
