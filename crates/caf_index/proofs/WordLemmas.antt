-- The words of a file, byte by byte.
use Rattle.std.proofs.Common.{◌≡◌, ℕ, zero, suc, ◌+◌, ◌<◌, true, false, cond, List, [], ◌∷◌, ◌++◌, length, get_or, drop, refl, sym, ap, ◌∙◌, arith, append_assoc, append-nil}
use Rattle.std.specs.Prelude.{map, take_while, ◌&&◌, ◌==◌, if◌then◌else◌}
use Rattle.std.proofs.lemmas.List.Sums.{take_while-cons}
use Rattle.std.proofs.lemmas.Bool.{eqb-true}
use Rattle.caf_index.specs.Words.{is_word_byte, lower_case, first_word, next_line, words_within, ended_word}
use Rattle.caf_index.specs.Index.{Entries, with_entry}
use Rattle.caf_index.specs.PlainIndex.{with_words}

-- the words from here on, where the bytes just read end with that part of a word, in lower case
abbrev pub words_after : List ℕ → ℕ → List ℕ → List (List ℕ × ℕ)
words_after [] line bytes = words_within false line bytes
words_after (b ∷ word) line bytes = ((b ∷ word) ++ first_word bytes, line) ∷ words_within true line bytes

first_word-word : (b : ℕ) (bytes : List ℕ) → is_word_byte b ≡ true → first_word (b ∷ bytes) ≡ lower_case b ∷ first_word bytes
first_word-word b bytes h = ap (map lower_case) (take_while-cons is_word_byte b bytes ∙ ap (λ t. cond t (b ∷ take_while is_word_byte bytes) []) h)

first_word-gap : (b : ℕ) (bytes : List ℕ) → is_word_byte b ≡ false → first_word (b ∷ bytes) ≡ []
first_word-gap b bytes h = ap (map lower_case) (take_while-cons is_word_byte b bytes ∙ ap (λ t. cond t (b ∷ take_while is_word_byte bytes) []) h)

-- a word byte ends no line
pub word_byte_in_line : (b line : ℕ) → is_word_byte b ≡ true → next_line line b ≡ line
word_byte_in_line b line h = elim (b == 10) as (λ t. (b == 10) ≡ t → (if t then line + 1 else line) ≡ line) [
  | true ↦ λ e. let ten : is_word_byte b ≡ false = ap is_word_byte (eqb-true b 10 e) in cc
  | false ↦ λ e. refl
] refl

pub words_after-word : (word : List ℕ) (line b : ℕ) (bytes : List ℕ) → is_word_byte b ≡ true → words_after word line (b ∷ bytes) ≡ words_after (word ++ lower_case b ∷ []) line bytes
words_after-word [] line b bytes h =
    ap (λ t. (if t && true then (first_word (b ∷ bytes), line) ∷ [] else []) ++ words_within t (next_line line b) bytes) h
    ∙ ap (λ n. (first_word (b ∷ bytes), line) ∷ words_within true n bytes) (word_byte_in_line b line h)
    ∙ ap (λ w. (w, line) ∷ words_within true line bytes) (first_word-word b bytes h)
words_after-word (c ∷ word) line b bytes h =
    ap (λ t. ((c ∷ word) ++ first_word (b ∷ bytes), line) ∷ ((if t && false then (first_word (b ∷ bytes), line) ∷ [] else []) ++ words_within t (next_line line b) bytes)) h
    ∙ ap (λ n. ((c ∷ word) ++ first_word (b ∷ bytes), line) ∷ words_within true n bytes) (word_byte_in_line b line h)
    ∙ ap (λ w. ((c ∷ word) ++ w, line) ∷ words_within true line bytes) (first_word-word b bytes h)
    ∙ ap (λ w. (w, line) ∷ words_within true line bytes) (sym (append_assoc (c ∷ word) (lower_case b ∷ []) (first_word bytes)))

pub words_after-gap : (word : List ℕ) (line b : ℕ) (bytes : List ℕ) → is_word_byte b ≡ false → words_after word line (b ∷ bytes) ≡ ended_word word line ++ words_after [] (next_line line b) bytes
words_after-gap [] line b bytes h =
    ap (λ t. (if t && true then (first_word (b ∷ bytes), line) ∷ [] else []) ++ words_within t (next_line line b) bytes) h
words_after-gap (c ∷ word) line b bytes h =
    ap (λ t. ((c ∷ word) ++ first_word (b ∷ bytes), line) ∷ ((if t && false then (first_word (b ∷ bytes), line) ∷ [] else []) ++ words_within t (next_line line b) bytes)) h
    ∙ ap (λ w. ((c ∷ word) ++ w, line) ∷ words_within false (next_line line b) bytes) (first_word-gap b bytes h)
    ∙ ap (λ w. (w, line) ∷ words_within false (next_line line b) bytes) (append-nil (c ∷ word))

pub words_after-end : (word : List ℕ) (line : ℕ) → words_after word line [] ≡ ended_word word line
words_after-end [] line = refl
words_after-end (c ∷ word) line = ap (λ w. (w, line) ∷ []) (append-nil (c ∷ word))

pub with_words-append : (index : Entries) (file : ℕ) (ws vs : List (List ℕ × ℕ)) → with_words index file (ws ++ vs) ≡ with_words (with_words index file ws) file vs
with_words-append index file [] vs = refl
with_words-append index file (w ∷ ws) vs = with_words-append (with_entry index w.0 file w.1) file ws vs

pub drop_here : (xs : List ℕ) (i : ℕ) → i < length xs → drop i xs ≡ get_or xs i 0 ∷ drop (i + 1) xs
drop_here [] i lt = absurd (omega arith)
drop_here (x ∷ xs) zero lt = refl
drop_here (x ∷ xs) (suc i) lt =
    let next : suc i + 1 ≡ suc (i + 1) = omega arith in
    drop_here xs i (omega arith) ∙ ap (λ k. get_or xs i 0 ∷ drop k (x ∷ xs)) (sym next)

-- a word byte goes to the word that is being read
pub byte_in_word : (index index' : Entries) (file : ℕ) (word word' : List ℕ) (line line' b : ℕ) (bytes : List ℕ) → is_word_byte b ≡ true → index' ≡ index → line' ≡ line → word' ≡ word ++ lower_case b ∷ []
    → with_words index' file (words_after word' line' bytes) ≡ with_words index file (words_after word line (b ∷ bytes))
byte_in_word index index' file word word' line line' b bytes h same_index same_line longer =
    ap (λ m. with_words m file (words_after word' line' bytes)) same_index
    ∙ ap (λ n. with_words index file (words_after word' n bytes)) same_line
    ∙ ap (λ w. with_words index file (words_after w line bytes)) longer
    ∙ ap (with_words index file) (sym (words_after-word word line b bytes h))

-- another byte ends the word, and maybe the line
pub byte_in_gap : (index index' : Entries) (file : ℕ) (word word' : List ℕ) (line line' b : ℕ) (bytes : List ℕ) → is_word_byte b ≡ false → index' ≡ with_words index file (ended_word word line) → word' ≡ [] → line' ≡ next_line line b
    → with_words index' file (words_after word' line' bytes) ≡ with_words index file (words_after word line (b ∷ bytes))
byte_in_gap index index' file word word' line line' b bytes h added emptied next =
    ap (λ m. with_words m file (words_after word' line' bytes)) added
    ∙ ap (λ w. with_words (with_words index file (ended_word word line)) file (words_after w line' bytes)) emptied
    ∙ ap (λ n. with_words (with_words index file (ended_word word line)) file (words_after [] n bytes)) next
    ∙ sym (with_words-append index file (ended_word word line) (words_after [] (next_line line b) bytes))
    ∙ ap (with_words index file) (sym (words_after-gap word line b bytes h))

-- a byte that ends no line
pub same_line : (line b : ℕ) → (b ≡ 10 → ⊥) → line ≡ next_line line b
same_line line b other = elim (b == 10) as (λ t. (b == 10) ≡ t → line ≡ (if t then line + 1 else line)) [
  | true ↦ λ e. absurd (other (eqb-true b 10 e))
  | false ↦ λ e. refl
] refl
