-- The lines of a file, and its chunks line by line.
use Rattle.std.proofs.Common.{◌≡◌, ℕ, zero, suc, ◌+◌, ◌-◌, ◌<◌, ◌≤◌, Bool, true, false, cond, List, [], ◌∷◌, length, take, drop, ltb, Option, Some, None, refl, sym, ap, subst, ◌∙◌, arith, ◌++◌, append_assoc, append-nil}
use Rattle.std.specs.Prelude.{if◌then◌else◌, nat_le, not, MatchOption}
use Rattle.std.specs.List.{position_or_len}
use Rattle.std.proofs.lemmas.Bool.{le-leb, leb-true, lt-ltb, ltb-true, ltb-false}
use Rattle.std.proofs.lemmas.List.{drop-drop, length-drop}
use Rattle.std.proofs.lemmas.List.Sums.{sum_by-cons}
use Rattle.caf_index.specs.Words.{is_line_end}
use Rattle.caf_index.specs.Chunks.{before_lines, lines_of, first_line, size_of, lines_after, chunks_within, chunks_of}
use Rattle.caf_index.specs.declared.chunk.Chunk.{Chunk}

-- ---- the first line

first_by : (b : ℕ) (bs : List ℕ) (t : Bool) → (0 < length bs → lines_of bs ≡ first_line bs ∷ lines_of (drop (length (first_line bs)) bs))
    → (if t then (b ∷ []) ∷ lines_of bs else before_lines b (lines_of bs)) ≡ (if t then b ∷ [] else b ∷ first_line bs) ∷ lines_of (drop (length (if t then b ∷ [] else b ∷ first_line bs)) (b ∷ bs))
first_by b bs true rest = refl
first_by b [] false rest = refl
first_by b (c ∷ bs) false rest = ap (before_lines b) (rest (omega arith))

-- a file is its first line and the lines behind it
pub lines-first : (bs : List ℕ) → 0 < length bs → lines_of bs ≡ first_line bs ∷ lines_of (drop (length (first_line bs)) bs)
lines-first [] some = absurd (omega arith)
lines-first (b ∷ bs) some = first_by b bs (is_line_end b) (lines-first bs)

some_by : (b : ℕ) (bs : List ℕ) (t : Bool) → 0 < length (if t then b ∷ [] else b ∷ bs)
some_by b bs true = omega arith
some_by b bs false = omega arith

pub line-some : (bs : List ℕ) → 0 < length bs → 0 < length (first_line bs)
line-some [] some = some
line-some (b ∷ bs) some = some_by b (first_line bs) (is_line_end b)

fits_by : (b : ℕ) (bs line : List ℕ) (t : Bool) → length line ≤ length bs → length (if t then b ∷ [] else b ∷ line) ≤ length (b ∷ bs)
fits_by b bs line true le = omega arith
fits_by b bs line false le = omega arith

pub line-fits : (bs : List ℕ) → length (first_line bs) ≤ length bs
line-fits [] = omega arith
line-fits (b ∷ bs) = fits_by b bs (first_line bs) (is_line_end b) (line-fits bs)

-- the lines from an offset on
pub lines_at : (bytes : List ℕ) (from end : ℕ) → from < length bytes → end ≡ from + length (first_line (drop from bytes)) → lines_of (drop from bytes) ≡ first_line (drop from bytes) ∷ lines_of (drop end bytes)
lines_at bytes from end lt is =
    let long : length (drop from bytes) ≡ length bytes - from = length-drop from bytes in
    lines-first (drop from bytes) (omega (arith, long))
    ∙ ap (λ bs. first_line (drop from bytes) ∷ lines_of bs) (drop-drop (length (first_line (drop from bytes))) from bytes ∙ ap (λ n. drop n bytes) (sym is))

pub end-some : (bytes : List ℕ) (from end : ℕ) → from < length bytes → end ≡ from + length (first_line (drop from bytes)) → from < end
end-some bytes from end lt is =
    let long : length (drop from bytes) ≡ length bytes - from = length-drop from bytes in
    let some : 0 < length (first_line (drop from bytes)) = line-some (drop from bytes) (omega (arith, long)) in
    omega (arith, some, is)

pub end-fits : (bytes : List ℕ) (from end : ℕ) → from < length bytes → end ≡ from + length (first_line (drop from bytes)) → end ≤ length bytes
end-fits bytes from end lt is =
    let long : length (drop from bytes) ≡ length bytes - from = length-drop from bytes in
    let fits : length (first_line (drop from bytes)) ≤ length (drop from bytes) = line-fits (drop from bytes) in
    omega (arith, long, fits, is)

-- ---- where the first byte 10 is

hit_by : (b : ℕ) (bs : List ℕ) (p : ℕ) (t : Bool) → p ≡ cond (not t) (1 + position_or_len is_line_end bs) 0 → p < length (b ∷ bs) → ((q : ℕ) → q ≡ position_or_len is_line_end bs → q < length bs → length (first_line bs) ≡ q + 1)
    → length (if t then b ∷ [] else b ∷ first_line bs) ≡ p + 1
hit_by b bs p true is lt rest = (let one : 1 ≡ p + 1 = omega (arith, is) in one)
hit_by b bs p false is lt rest =
    let more : length (first_line bs) ≡ position_or_len is_line_end bs + 1 = rest (position_or_len is_line_end bs) refl (omega arith) in
    (let all : suc (length (first_line bs)) ≡ p + 1 = omega (arith, more, is) in all)

pub line-hit : (bs : List ℕ) (p : ℕ) → p ≡ position_or_len is_line_end bs → p < length bs → length (first_line bs) ≡ p + 1
line-hit [] p is lt = absurd (omega arith)
line-hit (b ∷ bs) p is lt = hit_by b bs p (is_line_end b) is lt (line-hit bs)

miss_by : (b : ℕ) (bs : List ℕ) (t : Bool) → length (b ∷ bs) ≤ cond (not t) (1 + position_or_len is_line_end bs) 0 → (length bs ≤ position_or_len is_line_end bs → length (first_line bs) ≡ length bs)
    → length (if t then b ∷ [] else b ∷ first_line bs) ≡ length (b ∷ bs)
miss_by b bs true past rest = absurd (omega arith)
miss_by b bs false past rest =
    let more : length (first_line bs) ≡ length bs = rest (omega arith) in
    (let all : suc (length (first_line bs)) ≡ suc (length bs) = omega (arith, more) in all)

pub line-miss : (bs : List ℕ) → length bs ≤ position_or_len is_line_end bs → length (first_line bs) ≡ length bs
line-miss [] past = refl
line-miss (b ∷ bs) past = miss_by b bs (is_line_end b) past (line-miss bs)

-- as `position` answers
pub line-found : (bs : List ℕ) (r : Option ℕ) → r ≡ cond (ltb (position_or_len is_line_end bs) (length bs)) (Some (position_or_len is_line_end bs)) None
    → MatchOption r (length (first_line bs) ≡ length bs) (λ p. length (first_line bs) ≡ p + 1)
line-found bs r is = elim (ltb (position_or_len is_line_end bs) (length bs)) as (λ t. ltb (position_or_len is_line_end bs) (length bs) ≡ t → r ≡ cond t (Some (position_or_len is_line_end bs)) None → MatchOption r (length (first_line bs) ≡ length bs) (λ p. length (first_line bs) ≡ p + 1)) [
  | true ↦ λ e g. subst (λ o. MatchOption o (length (first_line bs) ≡ length bs) (λ p. length (first_line bs) ≡ p + 1)) (sym g) (line-hit bs (position_or_len is_line_end bs) refl (ltb-true _ _ e))
  | false ↦ λ e g. subst (λ o. MatchOption o (length (first_line bs) ≡ length bs) (λ p. length (first_line bs) ≡ p + 1)) (sym g) (line-miss bs (ltb-false _ _ e))
] refl is

-- ---- chunks, line by line

-- the chunks from a line on, where a chunk with lines is open
abbrev pub open_chunks : Chunk → ℕ → List (List ℕ) → List Chunk
open_chunks chunk number lines =
    record { line = chunk.line; from = chunk.from; to = chunk.to + size_of (take (lines_after (chunk.to - chunk.from) lines) lines) }
    ∷ chunks_within (lines_after (chunk.to - chunk.from) lines) number chunk.to lines

-- and where the open chunk may have none yet
abbrev pub rest_chunks : Bool → Chunk → ℕ → List (List ℕ) → List Chunk
rest_chunks true chunk number lines = open_chunks chunk number lines
rest_chunks false chunk number lines = chunks_within 0 number chunk.to lines

-- the chunk with a line more
abbrev pub with_end : Chunk → ℕ → Chunk
with_end chunk end = record { line = chunk.line; from = chunk.from; to = end }

module _ (line : List ℕ) (lines : List (List ℕ)) (number : ℕ) where
  -- a line that begins a chunk
  pub chunks-begin : (from end : ℕ) → end ≡ from + length line → chunks_within 0 number from (line ∷ lines) ≡ open_chunks (record { line = number; from = from; to = end }) (number + 1) lines
  chunks-begin from end is =
      let size : end - from ≡ length line = omega (arith, is) in
      ap (λ e. record { line = number; from = from; to = e + size_of (take (lines_after (length line) lines) lines) } ∷ chunks_within (lines_after (length line) lines) (number + 1) e lines) (sym is)
      ∙ ap (λ s. record { line = number; from = from; to = end + size_of (take (lines_after s lines) lines) } ∷ chunks_within (lines_after s lines) (number + 1) end lines) (sym size)

  -- a line that goes into the open chunk
  pub chunks-more : (chunk : Chunk) (end : ℕ) → chunk.from ≤ chunk.to → end ≡ chunk.to + length line → end - chunk.from ≤ 16384 → open_chunks chunk number (line ∷ lines) ≡ open_chunks (with_end chunk end) (number + 1) lines
  chunks-more chunk end order is fits =
      let size : chunk.to - chunk.from + length line ≡ end - chunk.from = omega (arith, is, order) in
      let goes : nat_le (chunk.to - chunk.from + length line) 16384 ≡ true = le-leb _ _ (omega (arith, size, fits)) in
      let n = lines_after (end - chunk.from) lines in
      let whole : chunk.to + size_of (line ∷ take n lines) ≡ end + size_of (take n lines) = (let s : size_of (line ∷ take n lines) ≡ length line + size_of (take n lines) = sum_by-cons length line (take n lines) in omega (arith, s, is)) in
      ap (λ (t : Bool). let k = (if t then suc (lines_after (chunk.to - chunk.from + length line) lines) else 0) in record { line = chunk.line; from = chunk.from; to = chunk.to + size_of (take k (line ∷ lines)) } ∷ chunks_within k number chunk.to (line ∷ lines)) goes
      ∙ ap (λ (s : ℕ). record { line = chunk.line; from = chunk.from; to = chunk.to + size_of (line ∷ take (lines_after s lines) lines) } ∷ chunks_within (lines_after s lines) (number + 1) (chunk.to + length line) lines) size
      ∙ ap (λ (e : ℕ). record { line = chunk.line; from = chunk.from; to = e } ∷ chunks_within n (number + 1) (chunk.to + length line) lines) whole
      ∙ ap (λ (e : ℕ). record { line = chunk.line; from = chunk.from; to = end + size_of (take n lines) } ∷ chunks_within n (number + 1) e lines) (sym is)

  -- a line that does not
  pub chunks-next : (chunk : Chunk) (end : ℕ) → chunk.from ≤ chunk.to → end ≡ chunk.to + length line → 16384 < end - chunk.from
      → open_chunks chunk number (line ∷ lines) ≡ chunk ∷ open_chunks (record { line = number; from = chunk.to; to = end }) (number + 1) lines
  chunks-next chunk end order is past =
      let size : chunk.to - chunk.from + length line ≡ end - chunk.from = omega (arith, is, order) in
      let stays : nat_le (chunk.to - chunk.from + length line) 16384 ≡ false = over _ _ (omega (arith, size, past)) in
      let same : chunk.to + 0 ≡ chunk.to = omega arith in
      ap (λ (t : Bool). let k = (if t then suc (lines_after (chunk.to - chunk.from + length line) lines) else 0) in record { line = chunk.line; from = chunk.from; to = chunk.to + size_of (take k (line ∷ lines)) } ∷ chunks_within k number chunk.to (line ∷ lines)) stays
      ∙ ap (λ (e : ℕ). record { line = chunk.line; from = chunk.from; to = e } ∷ chunks_within 0 number chunk.to (line ∷ lines)) same
      ∙ ap (λ cs. chunk ∷ cs) (chunks-begin chunk.to end is)
    where
      over : (a b : ℕ) → b < a → nat_le a b ≡ false
      over a b lt = elim (nat_le a b) as (λ t. nat_le a b ≡ t → nat_le a b ≡ false) [
        | true ↦ λ e. (let le : a ≤ b = leb-true a b e in absurd (omega (arith, le, lt)))
        | false ↦ λ e. e
      ] refl

-- no line is left
pub chunks-end : (chunk : Chunk) (number : ℕ) → open_chunks chunk number [] ≡ chunk ∷ []
chunks-end chunk number =
    let same : chunk.to + 0 ≡ chunk.to = omega arith in
    ap (λ (e : ℕ). record { line = chunk.line; from = chunk.from; to = e } ∷ []) same

-- ---- one turn of the loop over the lines

shut : (a b : ℕ) → b ≤ a → ltb a b ≡ false
shut a b le = elim (ltb a b) as (λ t. ltb a b ≡ t → ltb a b ≡ false) [
  | true ↦ λ e. (let l : a < b = ltb-true a b e in absurd (omega (arith, le, l)))
  | false ↦ λ e. e
] refl

-- the chunks that are done and those to come are those of the file
abbrev pub AreAll : List ℕ → List Chunk → Chunk → ℕ → Type 0
AreAll bytes chunks chunk number = chunks ++ rest_chunks (ltb chunk.from chunk.to) chunk number (lines_of (drop chunk.to bytes)) ≡ chunks_of bytes

module _ (bytes : List ℕ) (chunks : List Chunk) (old : Chunk) (number end : ℕ) (lt : old.to < length bytes) (is : end ≡ old.to + length (first_line (drop old.to bytes))) (all : AreAll bytes chunks old number) where
  line : List ℕ
  line = first_line (drop old.to bytes)

  lines : List (List ℕ)
  lines = lines_of (drop end bytes)

  split : lines_of (drop old.to bytes) ≡ line ∷ lines
  unfolding line lines
  split = lines_at bytes old.to end lt is

  is_open : (from : ℕ) → from ≤ old.to → true ≡ ltb from end
  is_open from le = (let past : old.to < end = end-some bytes old.to end lt is in sym (lt-ltb from end (omega (arith, past, le))))

  from_open : old.from < old.to → chunks ++ open_chunks old number (line ∷ lines) ≡ chunks_of bytes
  from_open some =
      ap (λ ls. chunks ++ open_chunks old number ls) (sym split)
      ∙ ap (λ (t : Bool). chunks ++ rest_chunks t old number (lines_of (drop old.to bytes))) (sym (lt-ltb old.from old.to some)) ∙ all

  pub turn-next : (new : List Chunk) (chunk : Chunk) → old.from < old.to → 16384 < end - old.from → new ≡ chunks ++ old ∷ [] → chunk ≡ record { line = number; from = old.to; to = old.to } → AreAll bytes new (with_end chunk end) (number + 1)
  unfolding line lines
  turn-next new chunk some past pushed begun =
      ap (λ cs. cs ++ rest_chunks (ltb chunk.from end) (with_end chunk end) (number + 1) lines) pushed
      ∙ ap (λ (k : Chunk). (chunks ++ old ∷ []) ++ rest_chunks (ltb k.from end) (with_end k end) (number + 1) lines) begun
      ∙ ap (λ (t : Bool). (chunks ++ old ∷ []) ++ rest_chunks t (record { line = number; from = old.to; to = end }) (number + 1) lines) (sym (is_open old.to (omega arith)))
      ∙ append_assoc chunks (old ∷ []) _
      ∙ ap (λ cs. chunks ++ cs) (sym (chunks-next line lines number old end (omega arith) is past))
      ∙ from_open some

  pub turn-more : (new : List Chunk) (chunk : Chunk) → old.from < old.to → end - old.from ≤ 16384 → new ≡ chunks → chunk ≡ old → AreAll bytes new (with_end chunk end) (number + 1)
  unfolding line lines
  turn-more new chunk some fits same kept =
      ap (λ cs. cs ++ rest_chunks (ltb chunk.from end) (with_end chunk end) (number + 1) lines) same
      ∙ ap (λ (k : Chunk). chunks ++ rest_chunks (ltb k.from end) (with_end k end) (number + 1) lines) kept
      ∙ ap (λ (t : Bool). chunks ++ rest_chunks t (with_end old end) (number + 1) lines) (sym (is_open old.from (omega arith)))
      ∙ ap (λ cs. chunks ++ cs) (sym (chunks-more line lines number old end (omega arith) is fits))
      ∙ from_open some

  pub turn-begin : (new : List Chunk) (chunk : Chunk) → old.from ≤ old.to → old.to ≤ old.from → old.line ≡ number → new ≡ chunks → chunk ≡ old → AreAll bytes new (with_end chunk end) (number + 1)
  unfolding line lines
  turn-begin new chunk order none first same kept =
      let empty : old.to ≡ old.from = omega (arith, order, none) in
      ap (λ cs. cs ++ rest_chunks (ltb chunk.from end) (with_end chunk end) (number + 1) lines) same
      ∙ ap (λ (k : Chunk). chunks ++ rest_chunks (ltb k.from end) (with_end k end) (number + 1) lines) kept
      ∙ ap (λ (t : Bool). chunks ++ rest_chunks t (with_end old end) (number + 1) lines) (sym (is_open old.from order))
      ∙ ap (λ (n : ℕ). chunks ++ open_chunks (record { line = n; from = old.from; to = end }) (number + 1) lines) first
      ∙ ap (λ (f : ℕ). chunks ++ open_chunks (record { line = number; from = f; to = end }) (number + 1) lines) (sym empty)
      ∙ ap (λ cs. chunks ++ cs) (sym (chunks-begin line lines number old.to end is))
      ∙ ap (λ ls. chunks ++ chunks_within 0 number old.to ls) (sym split)
      ∙ ap (λ (t : Bool). chunks ++ rest_chunks t old number (lines_of (drop old.to bytes))) (sym (shut _ _ none))
      ∙ all

-- ---- the end of the loop

none_left : (bytes : List ℕ) (to : ℕ) → length bytes ≤ to → lines_of (drop to bytes) ≡ []
none_left bytes to past = ap lines_of (drop_past bytes to past)
  where
    drop_past : (bs : List ℕ) (n : ℕ) → length bs ≤ n → drop n bs ≡ []
    drop_past [] zero le = refl
    drop_past [] (suc n) le = refl
    drop_past (b ∷ bs) zero le = absurd (omega arith)
    drop_past (b ∷ bs) (suc n) le = drop_past bs n (omega arith)

pub all-some : (bytes : List ℕ) (chunks new : List Chunk) (last : Chunk) (number : ℕ) → length bytes ≤ last.to → last.from < last.to → AreAll bytes chunks last number → new ≡ chunks ++ last ∷ [] → new ≡ chunks_of bytes
all-some bytes chunks new last number past some all pushed =
    pushed
    ∙ ap (λ cs. chunks ++ cs) (sym (chunks-end last number))
    ∙ ap (λ ls. chunks ++ open_chunks last number ls) (sym (none_left bytes last.to past))
    ∙ ap (λ (t : Bool). chunks ++ rest_chunks t last number (lines_of (drop last.to bytes))) (sym (lt-ltb last.from last.to some))
    ∙ all

pub all-none : (bytes : List ℕ) (chunks : List Chunk) (last : Chunk) (number : ℕ) → length bytes ≤ last.to → last.to ≤ last.from → AreAll bytes chunks last number → chunks ≡ chunks_of bytes
all-none bytes chunks last number past none all =
    sym (append-nil chunks)
    ∙ ap (λ ls. chunks ++ chunks_within 0 number last.to ls) (sym (none_left bytes last.to past))
    ∙ ap (λ (t : Bool). chunks ++ rest_chunks t last number (lines_of (drop last.to bytes))) (sym (shut _ _ none))
    ∙ all
