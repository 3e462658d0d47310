-- Lines and chunks of files, computed.
use Rattle.std.proofs.Common.{◌≡◌, ℕ, suc, List, [], ◌∷◌, ◌++◌, length, take, false, refl, ap, ◌∙◌, arith}
use Rattle.std.specs.Prelude.{codes, All, if◌then◌else◌, nat_le, ◌+◌}
use Rattle.caf_index.specs.Words.{is_line_end}
use Rattle.caf_index.specs.Chunks.{before_lines, lines_of, size_of, lines_after, chunks_within, chunks_of}
use Rattle.caf_index.specs.declared.chunk.Chunk.{Chunk}

abbrev chunk : ℕ → ℕ → ℕ → Chunk
chunk line from to = record { line = line; from = from; to = to }

-- ---- lines

lines : lines_of (codes "a\n\nbc") ≡ codes "a\n" ∷ codes "\n" ∷ codes "bc" ∷ []
lines = refl

no_line : lines_of [] ≡ []
no_line = refl

-- ---- chunks

empty_file : chunks_of [] ≡ []
empty_file = refl

small_file : chunks_of (codes "a\n\nbc") ≡ chunk 1 0 5 ∷ []
small_file = refl

-- ---- files whose lines are known by their lengths

-- bytes without a line end, and then one
HasNoEnd : List ℕ → Type 0
HasNoEnd bytes = All (λ byte. is_line_end byte ≡ false) bytes

first_line_apart : (line bytes : List ℕ) → HasNoEnd line → lines_of (line ++ 10 ∷ bytes) ≡ (line ++ 10 ∷ []) ∷ lines_of bytes
unfolding HasNoEnd
first_line_apart [] bytes none = refl
first_line_apart (b ∷ line) bytes none =
    ap (λ t. if t then (b ∷ []) ∷ lines_of (line ++ 10 ∷ bytes) else before_lines b (lines_of (line ++ 10 ∷ bytes))) (none 0 0 (omega arith))
    ∙ ap (before_lines b) (first_line_apart line bytes (λ k d lt. none (suc k) d (omega arith)))

-- a first line of 16,384 bytes, and then `x`
full_line_then_x : (line : List ℕ) → HasNoEnd line → length (line ++ 10 ∷ []) ≡ 16384 → chunks_of (line ++ 10 ∷ codes "x\n") ≡ chunk 1 0 16384 ∷ chunk 2 16384 16386 ∷ []
full_line_then_x line none long =
    ap (chunks_within 0 1 0) (first_line_apart line (codes "x\n") none)
    ∙ ap (λ (n : ℕ). chunk 1 0 (0 + n + size_of (take (lines_after n (codes "x\n" ∷ [])) (codes "x\n" ∷ []))) ∷ chunks_within (lines_after n (codes "x\n" ∷ [])) 2 (0 + n) (codes "x\n" ∷ [])) long

-- `x`, and then a line of 16,385 bytes
x_then_long_line : (line : List ℕ) → HasNoEnd line → length (line ++ 10 ∷ []) ≡ 16385 → chunks_of (codes "x\n" ++ (line ++ 10 ∷ [])) ≡ chunk 1 0 2 ∷ chunk 2 2 16387 ∷ []
x_then_long_line line none long =
    let last = line ++ 10 ∷ [] in
    ap (λ ls. chunks_within 0 1 0 (codes "x\n" ∷ ls)) (first_line_apart line [] none)
    ∙ ap (λ (n : ℕ). let k = (if nat_le (2 + n) 16384 then suc (lines_after (2 + n) []) else 0) in chunk 1 0 (2 + size_of (take k (last ∷ []))) ∷ chunks_within k 2 2 (last ∷ [])) long
    ∙ ap (λ (n : ℕ). chunk 1 0 2 ∷ chunk 2 2 (2 + n + 0) ∷ []) long
