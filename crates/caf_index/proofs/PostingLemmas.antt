-- Postings: the words of a text in lower case, and lists that are sorted, each key once.
use Rattle.std.proofs.Common.{◌≡◌, ℕ, ◌+◌, ◌-◌, ◌^◌, min, ◌<◌, ◌≤◌, Bool, true, false, cond, List, [], ◌∷◌, ◌++◌, length, get_or, take, drop, refl, sym, ap, subst, ◌∙◌, arith, rules, tests, append_assoc}
use Rattle.std.specs.Prelude.{◌&&◌, not, if◌then◌else◌, IsTrue, All, map, take_while}
use Rattle.std.proofs.lemmas.List.{map-append, get_or-map, length-drop, get_or-drop, take_more, take_all, drop_all}
use Rattle.std.proofs.lemmas.List.Elements.{All-push}
use Rattle.std.proofs.lemmas.List.Sums.{take_while-cons}
use Rattle.std.proofs.lemmas.Bool.Decides.{nat_tests}
use Rattle.std.proofs.lemmas.Cmp.{then_total, on_total}
use Rattle.std.specs.Cmp.{IsTotalOrder, nat_cmp_total}
use Rattle.std.specs.Cmp.Lexicographic.{slice_cmp, nat_list_cmp_total}
use Rattle.std.specs.Ordering.{nat_cmp, ordering_then}
use Rattle.std.specs.declared.cmp.Ordering.TheVariants.{Less, Equal, Greater}
use Rattle.std.specs.FinMap.{IsAntisymmetric, nat_cmp-IsAntisymmetric}
use Rattle.std.specs.Str.{IsUtf8}
use Rattle.std.proofs.lemmas.Str.{IsUtf8-from_ascii}
use Rattle.std.proofs.lemmas.Str.Ascii.{IsAscii-from_all}
use Rattle.caf_index.specs.Words.{is_word_byte, is_line_end, lower_case, first_word, next_line, words_within, ended_word}
use Rattle.caf_index.specs.Postings.{posting_at, stopped, words_from, posting_cmp}
use Rattle.caf_index.specs.declared.posting.Posting.{Posting}
use Rattle.caf_index.proofs.WordLemmas.{words_after, words_after-word, words_after-gap, words_after-end, drop_here}
use Rattle.caf_index.proofs.IndexLemmas.{words_apart}

-- ---- words are text

word_byte-ascii : (b : ℕ) → IsTrue (is_word_byte b) → b < 128
word_byte-ascii b h = search (rules, tests)

pub word-text : (word : List ℕ) → All (λ byte. IsTrue (is_word_byte byte)) word → IsUtf8 word
word-text word all = IsUtf8-from_ascii word (IsAscii-from_all word (λ k d lt. word_byte-ascii _ (all k d lt)))

-- ---- numbers that stop

stopped_here : (w : List ℕ) (t : Bool) (n m : ℕ) → min n (2 ^ 64 - 1) ≡ min m (2 ^ 64 - 1) → map stopped (if t then (w, n) ∷ [] else []) ≡ map stopped (if t then (w, m) ∷ [] else [])
stopped_here w true n m same = ap (λ k. posting_at w k ∷ []) same
stopped_here w false n m same = refl

next_same : (b n m : ℕ) (t : Bool) → min n (2 ^ 64 - 1) ≡ min m (2 ^ 64 - 1) → min (if t then n + 1 else n) (2 ^ 64 - 1) ≡ min (if t then m + 1 else m) (2 ^ 64 - 1)
next_same b n m true same = omega (arith, same)
next_same b n m false same = same

-- lines that stop at one number
pub words-stopped : (inside : Bool) (n m : ℕ) (bs : List ℕ) → min n (2 ^ 64 - 1) ≡ min m (2 ^ 64 - 1) → map stopped (words_within inside n bs) ≡ map stopped (words_within inside m bs)
words-stopped inside n m [] same = refl
words-stopped inside n m (b ∷ bs) same =
    map-append stopped (if is_word_byte b && not inside then (first_word (b ∷ bs), n) ∷ [] else []) (words_within (is_word_byte b) (next_line n b) bs)
    ∙ ap (λ ps. ps ++ map stopped (words_within (is_word_byte b) (next_line n b) bs)) (stopped_here (first_word (b ∷ bs)) (is_word_byte b && not inside) n m same)
    ∙ ap (λ ps. map stopped (if is_word_byte b && not inside then (first_word (b ∷ bs), m) ∷ [] else []) ++ ps) (words-stopped (is_word_byte b) (next_line n b) (next_line m b) bs (next_same b n m (is_line_end b) same))
    ∙ sym (map-append stopped (if is_word_byte b && not inside then (first_word (b ∷ bs), m) ∷ [] else []) (words_within (is_word_byte b) (next_line m b) bs))

-- ---- a text in lower case

lower-lower : (b : ℕ) → lower_case (lower_case b) ≡ lower_case b
lower-lower b = grind (arith, nat_tests)

pub text-lower : (bs : List ℕ) → map lower_case (map lower_case bs) ≡ map lower_case bs
text-lower [] = refl
text-lower (b ∷ bs) = ap (λ c. c ∷ map lower_case (map lower_case bs)) (lower-lower b) ∙ ap (λ cs. lower_case b ∷ cs) (text-lower bs)

lower-word : (b : ℕ) → is_word_byte (lower_case b) ≡ is_word_byte b
lower-word b = grind (arith, nat_tests)

lower-end : (b : ℕ) → is_line_end (lower_case b) ≡ is_line_end b
lower-end b = grind (arith, nat_tests)

run-lower : (bs : List ℕ) → take_while is_word_byte (map lower_case bs) ≡ map lower_case (take_while is_word_byte bs)
run-lower [] = refl
run-lower (b ∷ bs) =
    take_while-cons is_word_byte (lower_case b) (map lower_case bs)
    ∙ ap (λ t. cond t (lower_case b ∷ take_while is_word_byte (map lower_case bs)) []) (lower-word b)
    ∙ ap (λ cs. cond (is_word_byte b) (lower_case b ∷ cs) []) (run-lower bs)
    ∙ taken (is_word_byte b)
    ∙ ap (map lower_case) (sym (take_while-cons is_word_byte b bs))
  where
    taken : (t : Bool) → cond t (lower_case b ∷ map lower_case (take_while is_word_byte bs)) [] ≡ map lower_case (cond t (b ∷ take_while is_word_byte bs) [])
    taken true = refl
    taken false = refl

first-lower : (bs : List ℕ) → first_word (map lower_case bs) ≡ first_word bs
first-lower bs = ap (map lower_case) (run-lower bs) ∙ text-lower (take_while is_word_byte bs)

-- it has the words that the bytes have
pub words-lower : (inside : Bool) (n : ℕ) (bs : List ℕ) → words_within inside n (map lower_case bs) ≡ words_within inside n bs
words-lower inside n [] = refl
words-lower inside n (b ∷ bs) =
    ap (λ w. (if is_word_byte (lower_case b) && not inside then (w, n) ∷ [] else []) ++ words_within (is_word_byte (lower_case b)) (next_line n (lower_case b)) (map lower_case bs)) (first-lower (b ∷ bs))
    ∙ ap (λ t. (if t && not inside then (first_word (b ∷ bs), n) ∷ [] else []) ++ words_within t (next_line n (lower_case b)) (map lower_case bs)) (lower-word b)
    ∙ ap (λ (t : Bool). (if is_word_byte b && not inside then (first_word (b ∷ bs), n) ∷ [] else []) ++ words_within (is_word_byte b) (if t then n + 1 else n) (map lower_case bs)) (lower-end b)
    ∙ ap (λ ws. (if is_word_byte b && not inside then (first_word (b ∷ bs), n) ∷ [] else []) ++ ws) (words-lower (is_word_byte b) (next_line n b) bs)

-- a byte of it is in lower case
pub byte-lower : (text : List ℕ) (i : ℕ) → map lower_case text ≡ text → i < length text → lower_case (get_or text i 0) ≡ get_or text i 0
byte-lower text i same lt = sym (get_or-map lower_case text i 0 0 lt) ∙ ap (λ bs. get_or bs i 0) same

-- ---- one turn of the loop over the bytes

-- the bytes of the word that is being read
abbrev pub read_part : List ℕ → ℕ → ℕ → List ℕ
read_part text from at = take (at - from) (drop from text)

part-more : (text : List ℕ) (from at : ℕ) → from ≤ at → at < length text → read_part text from (at + 1) ≡ read_part text from at ++ get_or text at 0 ∷ []
part-more text from at le lt =
    let long : length (drop from text) ≡ length text - from = length-drop from text in
    let next : at + 1 - from ≡ at - from + 1 = omega (arith, le) in
    let here : from + (at - from) ≡ at = omega (arith, le) in
    ap (λ n. take n (drop from text)) next
    ∙ take_more (drop from text) (at - from) 0 (omega (arith, long, le, lt))
    ∙ ap (λ b. read_part text from at ++ b ∷ []) (get_or-drop from text (at - from) 0 ∙ ap (λ n. get_or text n 0) here)

part-none : (text : List ℕ) (from at : ℕ) → from ≡ at + 1 → read_part text from (at + 1) ≡ []
part-none text from at is =
    let none : at + 1 - from ≡ 0 = omega (arith, is) in
    ap (λ n. take n (drop from text)) none

part-all : (text : List ℕ) (from at : ℕ) → length text ≤ at → read_part text from at ≡ drop from text
part-all text from at past =
    let long : length (drop from text) ≡ length text - from = length-drop from text in
    take_all (at - from) (drop from text) (omega (arith, long, past))

-- the words that are listed and those to come are all
abbrev pub AreAll : List ℕ → ℕ → List Posting → ℕ → ℕ → ℕ → Type 0
AreAll text first words from line at = words ++ map stopped (words_after (read_part text from at) line (drop at text)) ≡ words_from first text

module _ (text : List ℕ) (first : ℕ) (words : List Posting) (from line at : ℕ) (lt : at < length text) (order : from ≤ at) (all : AreAll text first words from line at) where
  pub run-more : (new : ℕ) → All (λ byte. IsTrue (is_word_byte byte)) (read_part text from at) → IsTrue (is_word_byte (get_or text at 0)) → new ≡ from → All (λ byte. IsTrue (is_word_byte byte)) (read_part text new (at + 1))
  run-more new run word_byte same =
      subst (λ n. All (λ byte. IsTrue (is_word_byte byte)) (read_part text n (at + 1))) (sym same)
      (subst (All (λ byte. IsTrue (is_word_byte byte))) (sym (part-more text from at order lt)) (All-push (λ byte. IsTrue (is_word_byte byte)) (read_part text from at) (get_or text at 0) run word_byte))

  pub turn-word : (ws : List Posting) (new number : ℕ) → map lower_case text ≡ text → IsTrue (is_word_byte (get_or text at 0)) → ws ≡ words → new ≡ from → number ≡ line → AreAll text first ws new number (at + 1)
  turn-word ws new number lowered word_byte kept same_from same_line =
      let b = get_or text at 0 in
      let part = read_part text from at in
      let rest = drop (at + 1) text in
      ap (λ (ps : List Posting). ps ++ map stopped (words_after (read_part text new (at + 1)) number rest)) kept
      ∙ ap (λ (n : ℕ). words ++ map stopped (words_after (read_part text n (at + 1)) number rest)) same_from
      ∙ ap (λ (n : ℕ). words ++ map stopped (words_after (read_part text from (at + 1)) n rest)) same_line
      ∙ ap (λ (w : List ℕ). words ++ map stopped (words_after w line rest)) (part-more text from at order lt)
      ∙ ap (λ (c : ℕ). words ++ map stopped (words_after (part ++ c ∷ []) line rest)) (sym (byte-lower text at lowered lt))
      ∙ ap (λ (ps : List (List ℕ × ℕ)). words ++ map stopped ps) (sym (words_after-word part line b rest word_byte))
      ∙ ap (λ (bs : List ℕ). words ++ map stopped (words_after part line bs)) (sym (drop_here text at lt))
      ∙ all

  pub run-none : (new : ℕ) → new ≡ at + 1 → All (λ byte. IsTrue (is_word_byte byte)) (read_part text new (at + 1))
  run-none new is = subst (All (λ byte. IsTrue (is_word_byte byte))) (sym (part-none text new at is)) (λ k d l. absurd (omega arith))

  pub turn-gap : (ws : List Posting) (new number : ℕ) → is_word_byte (get_or text at 0) ≡ false → ws ≡ words ++ map stopped (ended_word (read_part text from at) line) → new ≡ at + 1 → min number (2 ^ 64 - 1) ≡ min (next_line line (get_or text at 0)) (2 ^ 64 - 1)
      → AreAll text first ws new number (at + 1)
  turn-gap ws new number gap added is next =
      let b = get_or text at 0 in
      let part = read_part text from at in
      let rest = drop (at + 1) text in
      ap (λ (ps : List Posting). ps ++ map stopped (words_after (read_part text new (at + 1)) number rest)) added
      ∙ ap (λ (w : List ℕ). (words ++ map stopped (ended_word part line)) ++ map stopped (words_after w number rest)) (part-none text new at is)
      ∙ ap (λ (ps : List Posting). (words ++ map stopped (ended_word part line)) ++ ps) (words-stopped false number (next_line line b) rest next)
      ∙ append_assoc words (map stopped (ended_word part line)) (map stopped (words_within false (next_line line b) rest))
      ∙ ap (λ (ps : List Posting). words ++ ps) (sym (map-append stopped (ended_word part line) (words_within false (next_line line b) rest)))
      ∙ ap (λ (ps : List (List ℕ × ℕ)). words ++ map stopped ps) (sym (words_after-gap part line b rest gap))
      ∙ ap (λ (bs : List ℕ). words ++ map stopped (words_after part line bs)) (sym (drop_here text at lt))
      ∙ all

pub turn-end : (text : List ℕ) (first : ℕ) (words ws : List Posting) (from line at : ℕ) → length text ≤ at → AreAll text first words from line at → ws ≡ words ++ map stopped (ended_word (read_part text from (length text)) line) → ws ≡ words_from first text
turn-end text first words ws from line at past all added =
    let whole : read_part text from at ≡ drop from text = part-all text from at past in
    let last : read_part text from (length text) ≡ drop from text = part-all text from (length text) (omega arith) in
    added
    ∙ ap (λ (w : List ℕ). words ++ map stopped (ended_word w line)) (last ∙ sym whole)
    ∙ ap (λ (ps : List (List ℕ × ℕ)). words ++ map stopped ps) (sym (words_after-end (read_part text from at) line))
    ∙ ap (λ (bs : List ℕ). words ++ map stopped (words_after (read_part text from at) line bs)) (sym (drop_all at text past))
    ∙ all

-- ---- the order of postings

pub postings-total : IsTotalOrder posting_cmp
postings-total = then_total (on_total (λ (p : Posting). p.word) nat_list_cmp_total) (on_total (λ (p : Posting). p.line) nat_cmp_total)

pub postings-apart : IsAntisymmetric posting_cmp
postings-apart p q is =
    elim (slice_cmp nat_cmp p.word q.word) as (λ r. slice_cmp nat_cmp p.word q.word ≡ r → ordering_then r (nat_cmp p.line q.line) ≡ Equal → p ≡ q) [
      | Less ↦ λ e g. cc
      | Equal ↦ λ e g. ap (λ w. posting_at w p.line) (words_apart p.word q.word e) ∙ ap (λ n. posting_at q.word n) (nat_cmp-IsAntisymmetric p.line q.line g)
      | Greater ↦ λ e g. cc
    ] refl is
