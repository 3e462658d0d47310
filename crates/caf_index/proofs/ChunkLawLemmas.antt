-- The chunks of a file and its lines.
use Rattle.std.proofs.Common.{◌≡◌, ℕ, zero, suc, ◌+◌, ◌-◌, ◌<◌, Bool, true, false, cond, List, [], ◌∷◌, ◌++◌, length, take, drop, refl, sym, ap, subst, ◌∙◌, arith, append_assoc, append-nil}
use Rattle.std.specs.Prelude.{if◌then◌else◌, ◌&&◌, not, flat_map, count_by, take_while, map}
use Rattle.std.proofs.lemmas.List.{drop-drop, take-append-drop, length-append}
use Rattle.std.proofs.Math.Seq.{take-append_seam, drop-append_seam}
use Rattle.std.proofs.lemmas.List.Sums.{sum_by-cons, take_while-cons}
use Rattle.std.proofs.lemmas.List.Concat.{flat_map-cons}
use Rattle.std.proofs.lemmas.Bool.{eqb-true}
use Rattle.caf_index.specs.Words.{is_line_end, is_word_byte, lower_case, first_word, next_line, words_within, words_of, ends_with_word_byte}
use Rattle.caf_index.specs.Chunks.{before_lines, lines_of, size_of, lines_after, chunks_within, chunks_of, chunk_bytes}
use Rattle.caf_index.specs.declared.chunk.Chunk.{Chunk}
use Rattle.caf_index.proofs.OccurrenceLemmas.{line_behind}

-- ---- lines, joined

pub joined : List (List ℕ) → List ℕ
joined [] = []
joined (l ∷ ls) = l ++ joined ls

pub joined-none : joined [] ≡ []
unfolding joined
joined-none = refl

pub joined-cons : (l : List ℕ) (ls : List (List ℕ)) → joined (l ∷ ls) ≡ l ++ joined ls
unfolding joined
joined-cons l ls = refl

pub joined-append : (ks ls : List (List ℕ)) → joined (ks ++ ls) ≡ joined ks ++ joined ls
unfolding joined
joined-append [] ls = refl
joined-append (k ∷ ks) ls = ap (λ bs. k ++ bs) (joined-append ks ls) ∙ sym (append_assoc k (joined ks) (joined ls))

joined-before : (b : ℕ) (ls : List (List ℕ)) → joined (before_lines b ls) ≡ b ∷ joined ls
unfolding joined
joined-before b [] = refl
joined-before b (l ∷ ls) = refl

-- the lines of a file, joined, are the file
pub joined-lines : (bs : List ℕ) → joined (lines_of bs) ≡ bs
unfolding joined
joined-lines [] = refl
joined-lines (b ∷ bs) = elim (is_line_end b) as (λ t. joined (if t then (b ∷ []) ∷ lines_of bs else before_lines b (lines_of bs)) ≡ b ∷ bs) [
  | true ↦ ap (λ cs. b ∷ cs) (joined-lines bs)
  | false ↦ joined-before b (lines_of bs) ∙ ap (λ cs. b ∷ cs) (joined-lines bs)
]

pub size-joined : (ls : List (List ℕ)) → length (joined ls) ≡ size_of ls
unfolding joined
size-joined [] = refl
size-joined (l ∷ ls) =
    let size : size_of (l ∷ ls) ≡ length l + size_of ls = sum_by-cons length l ls in
    let long : length (l ++ joined ls) ≡ length l + length (joined ls) = length-append l (joined ls) in
    let rest : length (joined ls) ≡ size_of ls = size-joined ls in
    omega (arith, size, long, rest)

drop-none : (n : ℕ) → drop {A = List ℕ} n [] ≡ []
drop-none zero = refl
drop-none (suc n) = refl

-- the bytes behind a line
pub behind-line : (bytes l : List ℕ) (ls : List (List ℕ)) (from : ℕ) → drop from bytes ≡ joined (l ∷ ls) → drop (from + length l) bytes ≡ joined ls
behind-line bytes l ls from is =
    sym (drop-drop (length l) from bytes) ∙ ap (drop (length l)) (is ∙ joined-cons l ls) ∙ drop-append_seam l (joined ls)

-- the bytes of a chunk are its lines, joined
pub chunk-lines : (bytes l : List ℕ) (ls : List (List ℕ)) (number from n : ℕ) → drop from bytes ≡ joined (l ∷ ls) → chunk_bytes bytes (record { line = number; from = from; to = from + length l + size_of (take n ls) }) ≡ joined (l ∷ take n ls)
chunk-lines bytes l ls number from n is =
    let front = l ∷ take n ls in
    let size : length (joined front) ≡ size_of front = size-joined front in
    let split : size_of front ≡ length l + size_of (take n ls) = sum_by-cons length l (take n ls) in
    let long : from + length l + size_of (take n ls) - from ≡ length (joined front) = omega (arith, size, split) in
    ap (λ k. take k (drop from bytes)) long
    ∙ ap (take (length (joined front))) (is ∙ ap (λ ks. joined (l ∷ ks)) (sym (take-append-drop n ls)) ∙ joined-append front (drop n ls))
    ∙ take-append_seam (joined front) (joined (drop n ls))

-- ---- the chunks, joined

join-within : (bytes : List ℕ) (inside number from : ℕ) (ls : List (List ℕ)) → drop from bytes ≡ joined ls → flat_map (chunk_bytes bytes) (chunks_within inside number from ls) ≡ joined (drop inside ls)
join-within bytes inside number from [] is = sym (ap joined (drop-none inside) ∙ joined-none)
join-within bytes (suc inside) number from (l ∷ ls) is = join-within bytes inside (number + 1) (from + length l) ls (behind-line bytes l ls from is)
join-within bytes zero number from (l ∷ ls) is =
    let n = lines_after (length l) ls in
    let chunk : Chunk = record { line = number; from = from; to = from + length l + size_of (take n ls) } in
    flat_map-cons (chunk_bytes bytes) chunk (chunks_within n (number + 1) (from + length l) ls)
    ∙ ap (λ bs. bs ++ flat_map (chunk_bytes bytes) (chunks_within n (number + 1) (from + length l) ls)) (chunk-lines bytes l ls number from n is)
    ∙ ap (λ bs. joined (l ∷ take n ls) ++ bs) (join-within bytes n (number + 1) (from + length l) ls (behind-line bytes l ls from is))
    ∙ sym (joined-append (l ∷ take n ls) (drop n ls))
    ∙ ap (λ ks. joined (l ∷ ks)) (take-append-drop n ls)

pub chunks-join : (bytes : List ℕ) → flat_map (chunk_bytes bytes) (chunks_of bytes) ≡ bytes
chunks-join bytes = join-within bytes 0 1 0 (lines_of bytes) (sym (joined-lines bytes)) ∙ joined-lines bytes

-- ---- what lines are

-- a line that a line end ends
pub record IsLine (line : List ℕ) : Type 0 where
  pub front : List ℕ
  pub is : line ≡ front ++ 10 ∷ []
  pub some : 0 < length line
  pub count : count_by is_line_end line ≡ 1
  pub gap : (inside : Bool) → ends_with_word_byte inside line ≡ false

-- each line but the last is one, and the last has bytes
abbrev pub AreLines : List (List ℕ) → Type 0
AreLines [] = Unit {0}
AreLines (l ∷ []) = 0 < length l
AreLines (l ∷ k ∷ ls) = IsLine l × AreLines (k ∷ ls)

lines-cons : (l : List ℕ) (ls : List (List ℕ)) → IsLine l → AreLines ls → AreLines (l ∷ ls)
lines-cons l [] h hs = h.some
lines-cons l (k ∷ ls) h hs = (h, hs)

line-alone : (b : ℕ) → is_line_end b ≡ true → IsLine (b ∷ [])
line-alone b e =
    let ten : b ≡ 10 = eqb-true b 10 e in
    subst (λ c. IsLine (c ∷ [])) (sym ten) (record { front = []; is = refl; some = omega arith; count = refl; gap = λ inside. refl })

none_from : (t : Bool) → t ≡ false → ◌≡◌ {A = ℕ} (cond t 1 0) 0
none_from true e = cc
none_from false e = refl

line-longer : (b : ℕ) (l : List ℕ) → is_line_end b ≡ false → IsLine l → IsLine (b ∷ l)
line-longer b l e h = record {
  front = b ∷ h.front;
  is = ap (λ bs. b ∷ bs) h.is;
  some = omega arith;
  count = (let more : count_by is_line_end (b ∷ l) ≡ cond (is_line_end b) 1 0 + count_by is_line_end l = sum_by-cons (λ byte. cond (is_line_end byte) 1 0) b l in omega (arith, more, none_from (is_line_end b) e, h.count));
  gap = λ inside. h.gap (is_word_byte b);
}

before-lines : (b : ℕ) (ls : List (List ℕ)) → is_line_end b ≡ false → AreLines ls → AreLines (before_lines b ls)
before-lines b [] e h = omega arith
before-lines b (l ∷ []) e h = omega arith
before-lines b (l ∷ k ∷ ls) e h = (line-longer b l e h.0, h.1)

pub are-lines : (bs : List ℕ) → AreLines (lines_of bs)
are-lines [] = tt
are-lines (b ∷ bs) = elim (is_line_end b) as (λ t. is_line_end b ≡ t → AreLines (if t then (b ∷ []) ∷ lines_of bs else before_lines b (lines_of bs))) [
  | true ↦ λ e. lines-cons (b ∷ []) (lines_of bs) (line-alone b e) (are-lines bs)
  | false ↦ λ e. before-lines b (lines_of bs) e (are-lines bs)
] refl

lines-rest : (l : List ℕ) (ls : List (List ℕ)) → AreLines (l ∷ ls) → AreLines ls
lines-rest l [] h = tt
lines-rest l (k ∷ ls) h = h.1

lines-take : (n : ℕ) (ls : List (List ℕ)) → AreLines ls → AreLines (take n ls)
lines-take zero ls h = tt
lines-take (suc n) [] h = tt
lines-take (suc zero) (l ∷ []) h = h
lines-take (suc zero) (l ∷ k ∷ ls) h = h.0.some
lines-take (suc (suc n)) (l ∷ []) h = h
lines-take (suc (suc n)) (l ∷ k ∷ ls) h = (h.0, lines-take (suc n) (k ∷ ls) h.1)

-- ---- words, line by line

-- the words of lines, the first of which has that number
line_words : ℕ → List (List ℕ) → List (List ℕ × ℕ)
line_words n [] = []
line_words n (l ∷ ls) = words_within false n l ++ line_words (n + 1) ls

line_words-append : (n : ℕ) (ks ls : List (List ℕ)) → line_words n (ks ++ ls) ≡ line_words n ks ++ line_words (n + length ks) ls
unfolding line_words
line_words-append n [] ls = (let same : n ≡ n + 0 = omega arith in ap (λ m. line_words m ls) same)
line_words-append n (k ∷ ks) ls =
    let next : n + 1 + length ks ≡ n + suc (length ks) = omega arith in
    ap (λ ws. words_within false n k ++ ws) (line_words-append (n + 1) ks ls)
    ∙ sym (append_assoc (words_within false n k) (line_words (n + 1) ks) (line_words (n + 1 + length ks) ls))
    ∙ ap (λ m. (words_within false n k ++ line_words (n + 1) ks) ++ line_words m ls) next

-- the first run of word bytes ends before the end
run-kept : (a b : List ℕ) → ends_with_word_byte true a ≡ false → take_while is_word_byte (a ++ b) ≡ take_while is_word_byte a
run-kept [] b gap = cc
run-kept (x ∷ a) b gap =
    take_while-cons is_word_byte x (a ++ b)
    ∙ (elim (is_word_byte x) as (λ t. ends_with_word_byte t a ≡ false → cond t (x ∷ take_while is_word_byte (a ++ b)) [] ≡ cond t (x ∷ take_while is_word_byte a) []) [
      | true ↦ λ g. ap (λ bs. x ∷ bs) (run-kept a b g)
      | false ↦ λ g. refl
    ] gap)
    ∙ sym (take_while-cons is_word_byte x a)

-- the words of two parts, of which the first ends between words
words-split : (inside : Bool) (n : ℕ) (a b : List ℕ) → ends_with_word_byte inside a ≡ false → words_within inside n (a ++ b) ≡ words_within inside n a ++ words_within false (n + count_by is_line_end a) b
words-split inside n [] b gap =
    (let same : n ≡ n + 0 = omega arith in ap (λ t. words_within t n b) gap ∙ ap (λ m. words_within false m b) same)
words-split inside n (x ∷ a) b gap =
    ap (λ w. (if is_word_byte x && not inside then (map lower_case w, n) ∷ [] else []) ++ words_within (is_word_byte x) (next_line n x) (a ++ b)) (run-kept (x ∷ a) b gap)
    ∙ ap (λ ws. (if is_word_byte x && not inside then (first_word (x ∷ a), n) ∷ [] else []) ++ ws) (words-split (is_word_byte x) (next_line n x) a b gap)
    ∙ sym (append_assoc (if is_word_byte x && not inside then (first_word (x ∷ a), n) ∷ [] else []) (words_within (is_word_byte x) (next_line n x) a) (words_within false (next_line n x + count_by is_line_end a) b))
    ∙ ap (λ m. words_within inside n (x ∷ a) ++ words_within false m b) (line_behind n x a)

lines-words : (n : ℕ) (ls : List (List ℕ)) → AreLines ls → words_within false n (joined ls) ≡ line_words n ls
unfolding line_words joined
lines-words n [] h = refl
lines-words n (l ∷ []) h = ap (words_within false n) (append-nil l) ∙ sym (append-nil (words_within false n l))
lines-words n (l ∷ k ∷ ls) h =
    words-split false n l (joined (k ∷ ls)) (h.0.gap false)
    ∙ ap (λ m. words_within false n l ++ words_within false (n + m) (joined (k ∷ ls))) h.0.count
    ∙ ap (λ ws. words_within false n l ++ ws) (lines-words (n + 1) (k ∷ ls) h.1)

-- the words of a chunk
abbrev words_in : List ℕ → Chunk → List (List ℕ × ℕ)
words_in bytes chunk = words_within false chunk.line (chunk_bytes bytes chunk)

keep-within : (bytes : List ℕ) (inside number from : ℕ) (ls : List (List ℕ)) → drop from bytes ≡ joined ls → AreLines ls
    → flat_map (words_in bytes) (chunks_within inside number from ls) ≡ line_words (number + length (take inside ls)) (drop inside ls)
unfolding line_words
keep-within bytes inside number from [] is h = sym (ap (line_words (number + length (take {A = List ℕ} inside []))) (drop-none inside))
keep-within bytes (suc inside) number from (l ∷ ls) is h =
    let next : number + 1 + length (take inside ls) ≡ number + suc (length (take inside ls)) = omega arith in
    keep-within bytes inside (number + 1) (from + length l) ls (behind-line bytes l ls from is) (lines-rest l ls h)
    ∙ ap (λ m. line_words m (drop inside ls)) next
keep-within bytes zero number from (l ∷ ls) is h =
    let n = lines_after (length l) ls in
    let chunk : Chunk = record { line = number; from = from; to = from + length l + size_of (take n ls) } in
    let next : number + 1 + length (take n ls) ≡ number + suc (length (take n ls)) = omega arith in
    let here : number ≡ number + 0 = omega arith in
    flat_map-cons (words_in bytes) chunk (chunks_within n (number + 1) (from + length l) ls)
    ∙ ap (λ bs. words_within false number bs ++ flat_map (words_in bytes) (chunks_within n (number + 1) (from + length l) ls)) (chunk-lines bytes l ls number from n is)
    ∙ ap (λ ws. ws ++ flat_map (words_in bytes) (chunks_within n (number + 1) (from + length l) ls)) (lines-words number (l ∷ take n ls) (lines-take (suc n) (l ∷ ls) h))
    ∙ ap (λ ws. line_words number (l ∷ take n ls) ++ ws) (keep-within bytes n (number + 1) (from + length l) ls (behind-line bytes l ls from is) (lines-rest l ls h))
    ∙ ap (λ m. line_words number (l ∷ take n ls) ++ line_words m (drop n ls)) next
    ∙ sym (line_words-append number (l ∷ take n ls) (drop n ls))
    ∙ ap (λ ks. line_words number (l ∷ ks)) (take-append-drop n ls)
    ∙ ap (λ m. line_words m (l ∷ ls)) here

pub chunks-keep : (bytes : List ℕ) → flat_map (λ chunk. words_within false chunk.line (chunk_bytes bytes chunk)) (chunks_of bytes) ≡ words_of bytes
chunks-keep bytes =
    keep-within bytes 0 1 0 (lines_of bytes) (sym (joined-lines bytes)) (are-lines bytes)
    ∙ sym (lines-words 1 (lines_of bytes) (are-lines bytes))
    ∙ ap (words_within false 1) (joined-lines bytes)
