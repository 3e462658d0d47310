-- A corpus within its limits can be played: the two ways of saying that lines are short agree.
use Rattle.std.proofs.Common.{◌≡◌, ℕ, ◌+◌, ◌<◌, ◌≤◌, Bool, true, false, List, [], ◌∷◌, ◌++◌, length, take, refl, sym, subst, ap, ◌∙◌, arith, le-leb, append_assoc}
use Rattle.std.specs.Prelude.{◌==◌, ◌&&◌, not, nat_le, if◌then◌else◌, reverse}
use Rattle.std.specs.List.{All, AllByRecursion, prefix_len, suffix_len}
use Rattle.std.proofs.lemmas.List.{length-append, reverse-append}
use Rattle.std.proofs.lemmas.List.Elements.{recursion_from_All}
use Rattle.caf_corpus.specs.Corpus.{IsWithin}
use Rattle.caf_corpus.specs.Limits.{is_line_end, filled_behind, HasShortLines}
use Rattle.caf_kinds.specs.PipelineLaws.{both_true}
use Rattle.caf_kinds.specs.Starting.{has_short_lines}

abbrev is_inner : ℕ → Bool
is_inner byte = not (is_line_end byte)

-- one byte more
filled_more : (front : List ℕ) (byte : ℕ) → filled_behind (front ++ byte ∷ []) ≡ (if byte == 10 then 0 else filled_behind front + 1)
filled_more front byte = ap (prefix_len is_inner) (reverse-append front (byte ∷ [])) ∙ go (byte == 10) refl
  where
    go : (b : Bool) → (byte == 10) ≡ b → prefix_len is_inner (byte ∷ reverse front) ≡ (if b then 0 else filled_behind front + 1)
    go true e = rw e refl
    go false e = rw e (omega arith)

take_front : (front rest : List ℕ) → take (length front) (front ++ rest) ≡ front
take_front [] rest = refl
take_front (byte ∷ front) rest = ap (λ (xs : List ℕ). byte ∷ xs) (take_front front rest)

-- behind a front, all further bytes stand in short lines
abbrev AreShortBehind : List ℕ → List ℕ → Type 0
AreShortBehind front rest = (k : ℕ) → length front ≤ k → k < length (front ++ rest) → filled_behind (take k (front ++ rest)) < 1048576

short_behind : (front rest : List ℕ) → AreShortBehind front rest → has_short_lines (filled_behind front) rest ≡ true
short_behind front [] all = refl
short_behind front (byte ∷ bytes) all =
    let long = length-append front (byte ∷ bytes) in
    let here : filled_behind front < 1048576 = subst (λ (xs : List ℕ). filled_behind xs < 1048576) (take_front front (byte ∷ bytes)) (all (length front) (omega arith) (omega (arith, long))) in
    let moved : (front ++ byte ∷ []) ++ bytes ≡ front ++ byte ∷ bytes = append_assoc front (byte ∷ []) bytes in
    let longer = length-append front (byte ∷ []) in
    let later : AreShortBehind (front ++ byte ∷ []) bytes = λ k low within.
    subst (λ (xs : List ℕ). filled_behind (take k xs) < 1048576) (sym moved) (all k (omega (arith, low, longer)) (subst (λ (xs : List ℕ). k < length xs) moved within)) in
    both_true (nat_le (filled_behind front + 1) 1048576) _ (le-leb (filled_behind front + 1) 1048576 (omega (arith, here)))
    (subst (λ (n : ℕ). has_short_lines n bytes ≡ true) (filled_more front byte) (short_behind (front ++ byte ∷ []) bytes later))

short_lines : (bytes : List ℕ) → HasShortLines bytes → has_short_lines 0 bytes ≡ true
short_lines bytes all = short_behind [] bytes (λ k low within. all k within)

all_short : (files : List (List ℕ)) → AllByRecursion HasShortLines files → AllByRecursion (λ bytes. has_short_lines 0 bytes ≡ true) files
all_short [] all = tt
all_short (bytes ∷ files) all = (short_lines bytes all.0, all_short files all.1)

pub within_is_short : (files : List (List ℕ)) → IsWithin files → AllByRecursion (λ bytes. has_short_lines 0 bytes ≡ true) files
within_is_short files within = all_short files (recursion_from_All HasShortLines files within.lines)
