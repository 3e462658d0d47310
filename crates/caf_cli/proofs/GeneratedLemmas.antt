-- Generated files have short lines.
use Rattle.std.proofs.Common.{◌≡◌, ℕ, zero, suc, ◌+◌, ◌-◌, ◌*◌, ◌/◌, ◌%◌, ◌^◌, ◌<◌, ◌≤◌, Bool, true, false, List, [], ◌∷◌, ◌++◌, length, map, flat_map, decimal, refl, sym, subst, ap, ◌∙◌, arith, le-leb, append_assoc}
use Rattle.std.specs.Prelude.{◌==◌, ◌&&◌, nat_le, if◌then◌else◌, min}
use Rattle.std.specs.List.{AllByRecursion}
use Rattle.std.proofs.lemmas.Fmt.{length-decimal-le_succ}
use Rattle.std.proofs.lemmas.List.{length-append}
use Rattle.caf_generator.specs.Generator.{number_at, span, word_at, spaced, line_at, file_at, files_of}
use Rattle.caf_kinds.specs.PipelineLaws.{both_true}
use Rattle.caf_kinds.specs.Starting.{has_short_lines}

-- a short line, and then others
then_others : (line rest : List ℕ) (before : ℕ) → before + length line + 1 ≤ 1048576 → has_short_lines 0 rest ≡ true → has_short_lines before (line ++ 10 ∷ rest) ≡ true
then_others [] rest before short others = both_true (nat_le (before + 1) 1048576) _ (le-leb (before + 1) 1048576 (omega (arith, short))) others
then_others (byte ∷ line) rest before short others =
    both_true (nat_le (before + 1) 1048576) _ (le-leb (before + 1) 1048576 (omega (arith, short)))
    (go (byte == 10) (then_others line rest 0 (omega (arith, short)) others) (then_others line rest (before + 1) (omega (arith, short)) others))
  where
    go : (b : Bool) → has_short_lines 0 (line ++ 10 ∷ rest) ≡ true → has_short_lines (before + 1) (line ++ 10 ∷ rest) ≡ true → has_short_lines (if b then 0 else before + 1) (line ++ 10 ∷ rest) ≡ true
    go true reset on = reset
    go false reset on = on

-- ---- words and lines

word_short : (k : ℕ) → length (word_at k) ≤ 1001
word_short k = omega (arith, length-decimal-le_succ (number_at k % 1000) (omega arith))

behind_short : (words : List (List ℕ)) → AllByRecursion (λ (word : List ℕ). length word ≤ 1001) words → length (flat_map (λ (next : List ℕ). 32 ∷ next) words) ≤ 1002 * length words
behind_short [] all = omega arith
behind_short (word ∷ words) all = omega (arith, all.0, behind_short words all.1, length-append (32 ∷ word) (flat_map (λ (next : List ℕ). 32 ∷ next) words))

spaced_short : (words : List (List ℕ)) → AllByRecursion (λ (word : List ℕ). length word ≤ 1001) words → length (spaced words) ≤ 1002 * length words
spaced_short [] all = omega arith
spaced_short (word ∷ words) all = omega (arith, all.0, behind_short words all.1, length-append word (flat_map (λ (next : List ℕ). 32 ∷ next) words))

words_short : (ks : List ℕ) → AllByRecursion (λ (word : List ℕ). length word ≤ 1001) (map word_at ks)
words_short [] = tt
words_short (k ∷ ks) = (word_short k, words_short ks)

count_of : (first count : ℕ) → length (map word_at (span first count)) ≡ count
count_of first zero = refl
count_of first (suc count) = omega (arith, count_of (first + 1) count)

inner : ℕ → List ℕ
inner line = spaced (map word_at (span (8 * line) 8))

inner_short : (line : ℕ) → length (inner line) ≤ 8016
unfolding inner
inner_short line =
    let words = map word_at (span (8 * line) 8) in
    omega (arith, spaced_short words (words_short (span (8 * line) 8)), count_of (8 * line) 8)

lines_short : (lines : List ℕ) → has_short_lines 0 (flat_map line_at lines) ≡ true
unfolding inner
lines_short [] = refl
lines_short (line ∷ lines) =
    subst (λ (text : List ℕ). has_short_lines 0 text ≡ true) (sym (append_assoc (inner line) (10 ∷ []) (flat_map line_at lines)))
    (then_others (inner line) (flat_map line_at lines) 0 (omega (arith, inner_short line)) (lines_short lines))

-- ---- files

all_short : (lines : ℕ) (files : List ℕ) → AllByRecursion (λ bytes. has_short_lines 0 bytes ≡ true) (map (file_at lines) files)
all_short lines [] = tt
all_short lines (file ∷ files) = (lines_short (span (1000 * file) (min 1000 (lines - 1000 * file))), all_short lines files)

pub generated_short : (lines : ℕ) → AllByRecursion (λ bytes. has_short_lines 0 bytes ≡ true) (files_of lines)
generated_short lines = all_short lines (span 0 ((lines + 999) / 1000))
