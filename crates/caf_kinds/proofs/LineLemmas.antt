-- Bytes have as many lines as line ends, and one more where the last line has no end.
use Rattle.std.proofs.Common.{◌≡◌, ℕ, suc, ◌+◌, ◌-◌, Bool, true, false, cond, List, [], ◌∷◌, length, refl, ap, ◌∙◌, arith}
use Rattle.std.specs.Prelude.{not, count_by}
use Rattle.std.proofs.lemmas.List.Sums.{sum_by-cons}
use Rattle.caf_index.specs.Words.{is_line_end}
use Rattle.caf_index.specs.Chunks.{lines_of, before_lines}
use Rattle.caf_kinds.specs.Lines.{ends_open}

-- how many lines bytes have behind a line without an end, where there is one
abbrev lines_behind : Bool → ℕ → List (List ℕ) → ℕ
lines_behind false before lines = length lines
lines_behind true before lines = length (before_lines before lines)

-- whether a line without an end stands last
abbrev is_open_after : Bool → List ℕ → Bool
is_open_after otherwise [] = otherwise
is_open_after otherwise (byte ∷ bytes) = is_open_after (not (is_line_end byte)) bytes

count_cons : (byte : ℕ) (bytes : List ℕ) → count_by is_line_end (byte ∷ bytes) ≡ cond (is_line_end byte) 1 0 + count_by is_line_end bytes
count_cons byte bytes = sum_by-cons (λ b. cond (is_line_end b) 1 0) byte bytes

-- a byte that ends a line, and then one that does not
with_end : (line_open : Bool) (before byte : ℕ) (lines : List (List ℕ)) → lines_behind line_open before ((byte ∷ []) ∷ lines) ≡ length lines + 1
with_end false before byte lines = omega arith
with_end true before byte lines = omega arith

with_byte : (line_open : Bool) (before byte : ℕ) (lines : List (List ℕ)) → lines_behind line_open before (before_lines byte lines) ≡ lines_behind true byte lines
with_byte false before byte lines = refl
with_byte true before byte [] = refl
with_byte true before byte (line ∷ lines) = refl

abbrev IsCounted : Bool → ℕ → List ℕ → Type 0
IsCounted line_open before bytes = lines_behind line_open before (lines_of bytes) ≡ count_by is_line_end bytes + cond (is_open_after line_open bytes) 1 0

counted_after : (line_open : Bool) (before : ℕ) (bytes : List ℕ) → IsCounted line_open before bytes
counted_after false before [] = refl
counted_after true before [] = refl
counted_after line_open before (byte ∷ bytes) = go (counted_after false byte bytes) (counted_after true byte bytes) (is_line_end byte) refl
  where
    go : IsCounted false byte bytes → IsCounted true byte bytes → (t : Bool) → is_line_end byte ≡ t → lines_behind line_open before (lines_of (byte ∷ bytes)) ≡ count_by is_line_end (byte ∷ bytes) + cond (is_open_after line_open (byte ∷ bytes)) 1 0
    go rest others true e =
        let count : count_by is_line_end (byte ∷ bytes) ≡ 1 + count_by is_line_end bytes = count_cons byte bytes ∙ rw e refl in
        let here : lines_behind line_open before (lines_of (byte ∷ bytes)) ≡ length (lines_of bytes) + 1 = rw e (with_end line_open before byte (lines_of bytes)) in
        let ends : is_open_after line_open (byte ∷ bytes) ≡ is_open_after false bytes = rw e refl in
        here ∙ (rw (count, ends) (omega (arith, rest)))
    go others rest false e =
        let count : count_by is_line_end (byte ∷ bytes) ≡ 0 + count_by is_line_end bytes = count_cons byte bytes ∙ rw e refl in
        let here : lines_behind line_open before (lines_of (byte ∷ bytes)) ≡ lines_behind true byte (lines_of bytes) = rw e (with_byte line_open before byte (lines_of bytes)) in
        let ends : is_open_after line_open (byte ∷ bytes) ≡ is_open_after true bytes = rw e refl in
        here ∙ (rw (count, ends) (omega (arith, rest)))

-- by the last byte
open_last : (byte : ℕ) (bytes : List ℕ) → is_open_after (not (is_line_end byte)) bytes ≡ ends_open (byte ∷ bytes)
open_last byte [] = refl
open_last byte (next ∷ bytes) = open_last next bytes ∙ last_same next bytes
  where
    last_same : (next : ℕ) (bytes : List ℕ) → ends_open (next ∷ bytes) ≡ ends_open (byte ∷ next ∷ bytes)
    last_same next bytes =
        let one : length (next ∷ bytes) - 1 ≡ length bytes = omega arith in
        let two : length (byte ∷ next ∷ bytes) - 1 ≡ suc (length bytes) = omega arith in
        rw (one, two) refl

is_ends_open : (bytes : List ℕ) → is_open_after false bytes ≡ ends_open bytes
is_ends_open [] = refl
is_ends_open (byte ∷ bytes) = open_last byte bytes

pub lines_counted : (bytes : List ℕ) → length (lines_of bytes) ≡ count_by is_line_end bytes + cond (ends_open bytes) 1 0
lines_counted bytes = counted_after false 0 bytes ∙ ap (λ t. count_by is_line_end bytes + cond t 1 0) (is_ends_open bytes)
