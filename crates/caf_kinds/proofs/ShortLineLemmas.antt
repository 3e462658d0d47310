-- Chunks of files whose lines are short are short.
use Rattle.std.proofs.Common.{◌≡◌, ℕ, zero, suc, ◌+◌, ◌-◌, ◌^◌, ◌<◌, ◌≤◌, Bool, true, false, List, [], ◌∷◌, length, take, drop, refl, arith, ◌⊎◌, inl, inr}
use Rattle.std.specs.Prelude.{◌==◌, nat_le, nat_lt, if◌then◌else◌}
use Rattle.std.specs.List.{list_all}
use Rattle.std.proofs.lemmas.Bool.{leb-true, le-leb, lt-ltb, ltb-true}
use Rattle.std.proofs.lemmas.List.{length-take, length-drop}
use Rattle.std.proofs.lemmas.List.Sums.{count_by-le-length}
use Rattle.caf_words.specs.Datum.{are_bytes}
use Rattle.caf_index.specs.Words.{is_line_end}
use Rattle.caf_index.specs.Chunks.{first_line, chunk_bytes, IsWholeLines, IsLongest}
use Rattle.caf_index.specs.declared.chunk.Chunk.{Chunk as Span}
use Rattle.caf_kinds.specs.Keeping.{first_of_and, second_of_and}
use Rattle.caf_kinds.specs.PipelineLaws.{both_true, in_range}
use Rattle.caf_kinds.specs.FileChunks.{chunk_at, IsChunk}
use Rattle.caf_kinds.specs.Starting.{has_short_lines}

-- ---- lines

-- with fewer bytes before, the first line is shorter
fewer_before : (few many : ℕ) (bytes : List ℕ) → few ≤ many → has_short_lines many bytes ≡ true → has_short_lines few bytes ≡ true
fewer_before few many [] le e = refl
fewer_before few many (byte ∷ bytes) le e =
    let here = leb-true (many + 1) 1048576 (first_of_and (nat_le (many + 1) 1048576) _ e) in
    both_true (nat_le (few + 1) 1048576) _ (le-leb (few + 1) 1048576 (omega (arith, here)))
    (go (fewer_before (few + 1) (many + 1) bytes (omega arith)) (byte == 10) (second_of_and (nat_le (many + 1) 1048576) _ e))
  where
    go : (has_short_lines (many + 1) bytes ≡ true → has_short_lines (few + 1) bytes ≡ true) → (t : Bool) → has_short_lines (if t then 0 else many + 1) bytes ≡ true → has_short_lines (if t then 0 else few + 1) bytes ≡ true
    go others true q = q
    go others false q = others q

-- the lines behind some bytes are short
short_behind : (n before : ℕ) (bytes : List ℕ) → has_short_lines before bytes ≡ true → has_short_lines 0 (drop n bytes) ≡ true
short_behind zero before bytes e = fewer_before 0 before bytes (omega arith) e
short_behind (suc n) before [] e = refl
short_behind (suc n) before (byte ∷ bytes) e = short_behind n (if byte == 10 then 0 else before + 1) bytes (second_of_and (nat_le (before + 1) 1048576) _ e)

short_first : (before : ℕ) (bytes : List ℕ) → before ≤ 1048576 → has_short_lines before bytes ≡ true → before + length (first_line bytes) ≤ 1048576
short_first before [] le e = omega arith
short_first before (byte ∷ bytes) le e =
    let here = leb-true (before + 1) 1048576 (first_of_and (nat_le (before + 1) 1048576) _ e) in
    go (λ le q. short_first (before + 1) bytes le q) (byte == 10) here (second_of_and (nat_le (before + 1) 1048576) _ e)
  where
    go : (before + 1 ≤ 1048576 → has_short_lines (before + 1) bytes ≡ true → before + 1 + length (first_line bytes) ≤ 1048576) → (t : Bool) → before + 1 ≤ 1048576 → has_short_lines (if t then 0 else before + 1) bytes ≡ true → before + length (if t then byte ∷ [] else byte ∷ first_line bytes) ≤ 1048576
    go others true here q = omega arith
    go others false here q = omega (arith, others here q)

-- ---- chunks

bytes_length : (bytes : List ℕ) (span : Span) → length (chunk_bytes bytes span) ≤ span.to - span.from
bytes_length bytes span = omega (arith, length-take (span.to - span.from) (drop span.from bytes))

short_chunk : (bytes : List ℕ) (span : Span) → has_short_lines 0 bytes ≡ true → IsLongest bytes span → length (chunk_bytes bytes span) ≤ 1048576
short_chunk bytes span short longest = go longest.fits
  where
    go : (span.to - span.from ≤ 16384) ⊎ (chunk_bytes bytes span ≡ first_line (drop span.from bytes)) → length (chunk_bytes bytes span) ≤ 1048576
    go (inl few) = omega (arith, few, bytes_length bytes span)
    go (inr line) = rw line (let first = short_first 0 (drop span.from bytes) (omega arith) (short_behind span.from 0 bytes short) in omega (arith, first))

-- ---- bytes

all_take : (test : ℕ → Bool) (n : ℕ) (xs : List ℕ) → list_all test xs ≡ true → list_all test (take n xs) ≡ true
all_take test zero xs e = refl
all_take test (suc n) [] e = refl
all_take test (suc n) (x ∷ xs) e = both_true (test x) _ (first_of_and (test x) (list_all test xs) e) (all_take test n xs (second_of_and (test x) (list_all test xs) e))

all_drop : (test : ℕ → Bool) (n : ℕ) (xs : List ℕ) → list_all test xs ≡ true → list_all test (drop n xs) ≡ true
all_drop test zero xs e = e
all_drop test (suc n) [] e = refl
all_drop test (suc n) (x ∷ xs) e = all_drop test n xs (second_of_and (test x) (list_all test xs) e)

chunk_are_bytes : (bytes : List ℕ) (span : Span) → are_bytes bytes ≡ true → are_bytes (chunk_bytes bytes span) ≡ true
chunk_are_bytes bytes span e =
    let few = ltb-true (length bytes) (2 ^ 64) (first_of_and (nat_lt (length bytes) (2 ^ 64)) (list_all (λ b. nat_lt b 256) bytes) e) in
    let all = second_of_and (nat_lt (length bytes) (2 ^ 64)) (list_all (λ b. nat_lt b 256) bytes) e in
    both_true (nat_lt (length (chunk_bytes bytes span)) (2 ^ 64)) _
    (lt-ltb (length (chunk_bytes bytes span)) (2 ^ 64) (omega (arith, few, length-take (span.to - span.from) (drop span.from bytes), length-drop span.from bytes)))
    (all_take (λ b. nat_lt b 256) (span.to - span.from) (drop span.from bytes) (all_drop (λ b. nat_lt b 256) span.from bytes all))

-- ---- a chunk of a file

line_range : (bytes : List ℕ) (span : Span) → length bytes < 2 ^ 64 → IsWholeLines bytes span → span.line < 2 ^ 64
line_range bytes span few whole =
    omega (arith, few, whole.some, whole.within, whole.number, count_by-le-length is_line_end (take span.from bytes), length-take span.from bytes)

-- a file that the program has: its bytes are bytes, and its lines are short
pub record IsFile (bytes : List ℕ) : Type 0 where
  pub are_bytes : are_bytes bytes ≡ true
  pub short : has_short_lines 0 bytes ≡ true

pub is_chunk : (bytes : List ℕ) (span : Span) (file number : ℕ) → IsFile bytes → IsWholeLines bytes span → IsLongest bytes span → file < 2 ^ 64 → number < 2 ^ 64 → IsChunk (chunk_at file number bytes span)
is_chunk bytes span file number is whole longest file_fits number_fits =
    let few = ltb-true (length bytes) (2 ^ 64) (first_of_and (nat_lt (length bytes) (2 ^ 64)) (list_all (λ b. nat_lt b 256) bytes) is.are_bytes) in
    record {
      range = in_range (chunk_at file number bytes span) (record {
        file = lt-ltb file (2 ^ 64) file_fits;
        number = lt-ltb number (2 ^ 64) number_fits;
        line = lt-ltb span.line (2 ^ 64) (line_range bytes span few whole);
        bytes = chunk_are_bytes bytes span is.are_bytes;
      });
      short = short_chunk bytes span is.short longest;
    }
