-- Each chunk of a file is the longest that its limit allows.
use Rattle.std.proofs.Common.{◌≡◌, ℕ, zero, suc, ◌+◌, ◌-◌, ◌<◌, ◌≤◌, Bool, true, false, List, [], ◌∷◌, ◌++◌, length, take, drop, inl, inr, refl, sym, ap, ◌∙◌, arith, append-nil}
use Rattle.std.specs.Prelude.{if◌then◌else◌, nat_le, All, ◌⊎◌}
use Rattle.std.proofs.lemmas.Bool.{leb-true, leb-false}
use Rattle.std.proofs.lemmas.List.{drop-drop, length-drop}
use Rattle.std.proofs.lemmas.List.Sums.{sum_by-cons}
use Rattle.caf_index.specs.Chunks.{lines_of, first_line, size_of, lines_after, chunks_within, chunks_of, chunk_bytes, IsLongest}
use Rattle.caf_index.specs.declared.chunk.Chunk.{Chunk}
use Rattle.caf_index.proofs.ChunkLemmas.{lines-first}
use Rattle.caf_index.proofs.ChunkLawLemmas.{joined, joined-none, joined-cons, joined-lines, chunk-lines}
use Rattle.caf_index.proofs.WholeLinesLemmas.{all-cons}

-- ---- the lines that go into a chunk

none-fits : (size : ℕ) (ls : List (List ℕ)) → 16384 < size → lines_after size ls ≡ 0
none-fits size [] past = refl
none-fits size (l ∷ ls) past = at (nat_le (size + length l) 16384) refl
  where
    at : (t : Bool) → nat_le (size + length l) 16384 ≡ t → (if t then suc (lines_after (size + length l) ls) else 0) ≡ 0
    at true e = (let le : size + length l ≤ 16384 = leb-true _ _ e in absurd (omega (arith, le, past)))
    at false e = refl

fit_by : (size : ℕ) (l : List ℕ) (ls : List (List ℕ)) (t : Bool) → size ≤ 16384 → nat_le (size + length l) 16384 ≡ t → (size + length l ≤ 16384 → size + length l + size_of (take (lines_after (size + length l) ls) ls) ≤ 16384)
    → size + size_of (take (if t then suc (lines_after (size + length l) ls) else 0) (l ∷ ls)) ≤ 16384
fit_by size l ls true le e rest =
    let n = lines_after (size + length l) ls in
    let more : size + length l + size_of (take n ls) ≤ 16384 = rest (leb-true _ _ e) in
    let split : size_of (l ∷ take n ls) ≡ length l + size_of (take n ls) = sum_by-cons length l (take n ls) in
    omega (arith, more, split)
fit_by size l ls false le e rest = omega arith

fit : (size : ℕ) (ls : List (List ℕ)) → size ≤ 16384 → size + size_of (take (lines_after size ls) ls) ≤ 16384
fit size [] le = omega arith
fit size (l ∷ ls) le = fit_by size l ls (nat_le (size + length l) 16384) le refl (fit (size + length l) ls)

-- and the one behind them does not
first_size : List (List ℕ) → ℕ
first_size [] = 0
first_size (k ∷ ks) = length k

full_by : (size : ℕ) (l : List ℕ) (ls : List (List ℕ)) (r : List ℕ) (rs : List (List ℕ)) (t : Bool) → nat_le (size + length l) 16384 ≡ t → drop (if t then suc (lines_after (size + length l) ls) else 0) (l ∷ ls) ≡ r ∷ rs
    → (drop (lines_after (size + length l) ls) ls ≡ r ∷ rs → 16384 < size + length l + size_of (take (lines_after (size + length l) ls) ls) + length r)
    → 16384 < size + size_of (take (if t then suc (lines_after (size + length l) ls) else 0) (l ∷ ls)) + length r
unfolding first_size
full_by size l ls r rs true e is rest =
    let n = lines_after (size + length l) ls in
    let more : 16384 < size + length l + size_of (take n ls) + length r = rest is in
    let split : size_of (l ∷ take n ls) ≡ length l + size_of (take n ls) = sum_by-cons length l (take n ls) in
    omega (arith, more, split)
full_by size l ls r rs false e is rest =
    let past : 16384 < size + length l = leb-false _ _ e in
    let same : length l ≡ length r = ap first_size is in
    omega (arith, past, same)

full : (size : ℕ) (ls : List (List ℕ)) (r : List ℕ) (rs : List (List ℕ)) → drop (lines_after size ls) ls ≡ r ∷ rs → 16384 < size + size_of (take (lines_after size ls) ls) + length r
full size [] r rs is = cc
full size (l ∷ ls) r rs is = full_by size l ls r rs (nat_le (size + length l) 16384) refl is (full (size + length l) ls r rs)

-- ---- the lines from an offset on

first_of : List (List ℕ) → List ℕ
first_of [] = []
first_of (l ∷ ls) = l

rest_of : List (List ℕ) → List (List ℕ)
rest_of [] = []
rest_of (l ∷ ls) = ls

not-empty : (bs l : List ℕ) (ls : List (List ℕ)) → lines_of bs ≡ l ∷ ls → 0 < length bs
not-empty [] l ls is = cc
not-empty (b ∷ bs) l ls is = omega arith

is-first : (bs l : List ℕ) (ls : List (List ℕ)) → lines_of bs ≡ l ∷ ls → first_line bs ≡ l
unfolding first_of
is-first bs l ls is = ap first_of (sym (lines-first bs (not-empty bs l ls is)) ∙ is)

next-lines : (bytes l : List ℕ) (ls : List (List ℕ)) (from : ℕ) → lines_of (drop from bytes) ≡ l ∷ ls → lines_of (drop (from + length l) bytes) ≡ ls
unfolding rest_of
next-lines bytes l ls from is =
    ap lines_of (sym (drop-drop (length l) from bytes))
    ∙ ap (λ (k : List ℕ). lines_of (drop (length k) (drop from bytes))) (sym (is-first (drop from bytes) l ls is))
    ∙ ap rest_of (sym (lines-first (drop from bytes) (not-empty (drop from bytes) l ls is)) ∙ is)

lines-past : (bytes : List ℕ) (ls : List (List ℕ)) (from n : ℕ) → lines_of (drop from bytes) ≡ ls → lines_of (drop (from + size_of (take n ls)) bytes) ≡ drop n ls
lines-past bytes ls from zero is = (let same : from + 0 ≡ from = omega arith in ap (λ (k : ℕ). lines_of (drop k bytes)) same ∙ is)
lines-past bytes [] from (suc n) is = (let same : from + 0 ≡ from = omega arith in ap (λ (k : ℕ). lines_of (drop k bytes)) same ∙ is)
lines-past bytes (l ∷ ls) from (suc n) is =
    let split : size_of (l ∷ take n ls) ≡ length l + size_of (take n ls) = sum_by-cons length l (take n ls) in
    let same : from + size_of (l ∷ take n ls) ≡ from + length l + size_of (take n ls) = omega (arith, split) in
    ap (λ (k : ℕ). lines_of (drop k bytes)) same ∙ lines-past bytes ls (from + length l) n (next-lines bytes l ls from is)

-- ---- chunks

module _ (bytes l : List ℕ) (ls : List (List ℕ)) (number from : ℕ) (is : lines_of (drop from bytes) ≡ l ∷ ls) where
  abbrev chunk : Chunk
  chunk = record { line = number; from = from; to = from + length l + size_of (take (lines_after (length l) ls) ls) }

  chunk-fits : (chunk.to - chunk.from ≤ 16384) ⊎ (chunk_bytes bytes chunk ≡ first_line (drop from bytes))
  chunk-fits = at (nat_le (length l) 16384) refl
    where
      at : (t : Bool) → nat_le (length l) 16384 ≡ t → (chunk.to - chunk.from ≤ 16384) ⊎ (chunk_bytes bytes chunk ≡ first_line (drop from bytes))
      at true e = (let all : length l + size_of (take (lines_after (length l) ls) ls) ≤ 16384 = fit (length l) ls (leb-true _ _ e) in inl (omega (arith, all)))
      at false e = inr (
          chunk-lines bytes l ls number from (lines_after (length l) ls) (sym (joined-lines (drop from bytes)) ∙ ap joined is)
          ∙ ap (λ (n : ℕ). joined (l ∷ take n ls)) (none-fits (length l) ls (leb-false _ _ e))
          ∙ joined-cons l [] ∙ ap (λ bs. l ++ bs) joined-none ∙ append-nil l
          ∙ sym (is-first (drop from bytes) l ls is))

  chunk-full : chunk.to < length bytes → 16384 < chunk.to - chunk.from + length (first_line (drop chunk.to bytes))
  chunk-full lt =
      let n = lines_after (length l) ls in
      let past : lines_of (drop chunk.to bytes) ≡ drop n ls = lines-past bytes ls (from + length l) n (next-lines bytes l ls from is) in
      let long : length (drop chunk.to bytes) ≡ length bytes - chunk.to = length-drop chunk.to bytes in
      let some : 0 < length (drop chunk.to bytes) = omega (arith, long, lt) in
      let next = first_line (drop chunk.to bytes) in
      let here = sym past ∙ lines-first (drop chunk.to bytes) some in
      let more : 16384 < length l + size_of (take n ls) + length next = full (length l) ls next _ here in
      omega (arith, more)

  chunk-longest : IsLongest bytes chunk
  chunk-longest = record { fits = chunk-fits; full = chunk-full }

longest-within : (bytes : List ℕ) (inside number from : ℕ) (ls : List (List ℕ)) → lines_of (drop from bytes) ≡ ls → All (IsLongest bytes) (chunks_within inside number from ls)
longest-within bytes inside number from [] is = λ k d lt. absurd (omega arith)
longest-within bytes (suc inside) number from (l ∷ ls) is = longest-within bytes inside (number + 1) (from + length l) ls (next-lines bytes l ls from is)
longest-within bytes zero number from (l ∷ ls) is =
    let n = lines_after (length l) ls in
    all-cons (IsLongest bytes) (record { line = number; from = from; to = from + length l + size_of (take n ls) }) (chunks_within n (number + 1) (from + length l) ls)
    (chunk-longest bytes l ls number from is)
    (longest-within bytes n (number + 1) (from + length l) ls (next-lines bytes l ls from is))

pub chunks-longest : (bytes : List ℕ) → All (IsLongest bytes) (chunks_of bytes)
chunks-longest bytes = longest-within bytes 0 1 0 (lines_of bytes) refl
