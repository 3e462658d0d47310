-- The postings of a chunk are in their ranges: their words are texts, and there are fewer of them than bytes.
use Rattle.std.specs.Prelude.{◌≡◌, ℕ, zero, suc, ◌+◌, ◌^◌, ◌≤◌, ◌<◌, ◌&&◌, nat_lt, not, cond, min, if◌then◌else◌, Bool, true, false, List, [], ◌∷◌, ◌++◌, length, map, slice_index, refl}
use Rattle.std.proofs.Common.{arith, ap, sym, ◌∙◌, subst}
use Rattle.std.proofs.lemmas.Bool.{lt-ltb, ltb-true}
use Rattle.std.proofs.lemmas.Bool.Decides.{nat_tests}
use Rattle.std.proofs.lemmas.List.{length-map, length-take, map-append}
use Rattle.std.proofs.lemmas.List.Sums.{take_while-cons}
use Rattle.std.proofs.lemmas.Str.{is_utf8-from_IsUtf8, IsUtf8-from_ascii}
use Rattle.std.specs.List.{AllByRecursion, list_all, take_while, prefix_len}
use Rattle.std.specs.Str.{is_utf8}
use Rattle.std.specs.declared.cmp.Ordering.{Ordering}
use Rattle.std.specs.declared.cmp.Ordering.TheVariants.{Less, Equal, Greater}
use Rattle.std.specs.FinMap.Entries.{by_order}
use Rattle.caf_words.specs.Datum.{data_of, count, a_list, is_in_range, are_in_range, are_bytes}
use Rattle.caf_index.specs.Words.{is_word_byte, lower_case, first_word, next_line, words_within}
use Rattle.caf_index.specs.Postings.{stopped, words_from, posting_cmp, put_once, sorted_once, postings_of}
use Rattle.caf_index.specs.declared.posting.Posting.{Posting}
use Rattle.caf_kinds.specs.Contents.{item_means, postings_means}
use Rattle.caf_kinds.specs.Keeping.{on_if, first_of_and, below}
use Rattle.caf_kinds.specs.PipelineLaws.{both_true, HasRanges}
use Rattle.caf_kinds.specs.Counter.{item_of, postings_at}
use Rattle.caf_kinds.specs.declared.contents.Chunk.{Chunk}

-- ---- words are texts

word_byte_small : (b : ℕ) → is_word_byte b ≡ true → lower_case b < 128
word_byte_small b e = grind (arith, nat_tests)

abbrev AreSmall : List ℕ → Type 0
AreSmall bs = AllByRecursion (λ (b : ℕ). b < 128) bs

run_small : (b : ℕ) (bs : List ℕ) → AreSmall (first_word bs) → (t : Bool) → is_word_byte b ≡ t → AreSmall (map lower_case (cond t (b ∷ take_while is_word_byte bs) []))
run_small b bs rest true e = (word_byte_small b e, rest)
run_small b bs rest false e = tt

word_small : (bs : List ℕ) → AreSmall (first_word bs)
word_small [] = tt
word_small (b ∷ bs) = subst (λ (ws : List ℕ). AreSmall (map lower_case ws)) (sym (take_while-cons is_word_byte b bs)) (run_small b bs (word_small bs) (is_word_byte b) refl)

small_ascii : (bs : List ℕ) → AreSmall bs → (i : ℕ) → slice_index bs i < 128
small_ascii [] all i = omega arith
small_ascii (b ∷ bs) all zero = all.0
small_ascii (b ∷ bs) all (suc i) = small_ascii bs all.1 i

small_bytes : (bs : List ℕ) → AreSmall bs → list_all (λ b. nat_lt b 256) bs ≡ true
small_bytes [] all = refl
small_bytes (b ∷ bs) all = both_true (nat_lt b 256) _ (let lt : b < 128 = all.0 in lt-ltb b 256 (omega arith)) (small_bytes bs all.1)

word_length : (bs : List ℕ) → length (first_word bs) ≤ length bs
word_length bs = omega (arith, length-map (take_while is_word_byte bs) lower_case, length-take (prefix_len is_word_byte bs) bs)

word_is_text : (bs : List ℕ) → length bs < 2 ^ 64 → (are_bytes (first_word bs) && is_utf8 (first_word bs)) ≡ true
word_is_text bs short =
    both_true (are_bytes (first_word bs)) (is_utf8 (first_word bs))
    (both_true (nat_lt (length (first_word bs)) (2 ^ 64)) _ (lt-ltb (length (first_word bs)) (2 ^ 64) (omega (arith, word_length bs))) (small_bytes (first_word bs) (word_small bs)))
    (is_utf8-from_IsUtf8 (first_word bs) (IsUtf8-from_ascii (first_word bs) (small_ascii (first_word bs) (word_small bs))))

-- ---- postings are sound

abbrev IsPosting : Posting → Type 0
IsPosting p = is_in_range (item_means (item_of p)) ≡ true

posting_sound : (w : List ℕ) (line : ℕ) → (are_bytes w && is_utf8 w) ≡ true → IsPosting (stopped (w, line))
posting_sound w line e = both_true (are_bytes w && is_utf8 w) _ e (both_true (nat_lt (min line 18446744073709551615) (2 ^ 64)) true (below line) refl)

all_append : {A : Type 0} (P : A → Type 0) (xs ys : List A) → AllByRecursion P xs → AllByRecursion P ys → AllByRecursion P (xs ++ ys)
all_append P [] ys all rest = rest
all_append P (x ∷ xs) ys all rest = (all.0, all_append P xs ys all.1 rest)

words_sound : (inside : Bool) (line : ℕ) (bs : List ℕ) → length bs < 2 ^ 64 → AllByRecursion IsPosting (map stopped (words_within inside line bs))
words_sound inside line [] short = tt
words_sound inside line (b ∷ bs) short =
    let first : List (List ℕ × ℕ) = if is_word_byte b && not inside then (first_word (b ∷ bs), line) ∷ [] else [] in
    let others : List (List ℕ × ℕ) = words_within (is_word_byte b) (next_line line b) bs in
    subst (AllByRecursion IsPosting) (sym (map-append stopped first others))
    (all_append IsPosting (map stopped first) (map stopped others)
    (on_if (λ (ws : List (List ℕ × ℕ)). AllByRecursion IsPosting (map stopped ws)) (is_word_byte b && not inside) ((first_word (b ∷ bs), line) ∷ []) []
    (λ _. (posting_sound (first_word (b ∷ bs)) line (word_is_text (b ∷ bs) short), tt)) (λ _. tt))
    (words_sound (is_word_byte b) (next_line line b) bs (omega arith)))

put_sound : {K : Type 0} (P : K → Type 0) (cmp : K → K → Ordering) (key : K) (keys : List K) → P key → AllByRecursion P keys → AllByRecursion P (put_once cmp key keys)
put_sound P cmp key [] one all = (one, tt)
put_sound P cmp key (k ∷ keys) one all =
    elim (cmp key k) as (λ r. AllByRecursion P (by_order r (key ∷ k ∷ keys) (k ∷ keys) (k ∷ put_once cmp key keys))) [
      | Less ↦ (one, all)
      | Equal ↦ all
      | Greater ↦ (all.0, put_sound P cmp key keys one all.1)
    ]

sorted_sound : {K : Type 0} (P : K → Type 0) (cmp : K → K → Ordering) (keys : List K) → AllByRecursion P keys → AllByRecursion P (sorted_once cmp keys)
sorted_sound P cmp [] all = tt
sorted_sound P cmp (key ∷ keys) all = put_sound P cmp key (sorted_once cmp keys) all.0 (sorted_sound P cmp keys all.1)

-- ---- there are no more than bytes

words_few : (inside : Bool) (line : ℕ) (bs : List ℕ) → length (words_within inside line bs) ≤ length bs
words_few inside line [] = omega arith
words_few inside line (b ∷ bs) =
    let others : List (List ℕ × ℕ) = words_within (is_word_byte b) (next_line line b) bs in
    on_if (λ (ws : List (List ℕ × ℕ)). length (ws ++ others) ≤ suc (length bs)) (is_word_byte b && not inside) ((first_word (b ∷ bs), line) ∷ []) []
    (λ _. omega (arith, words_few (is_word_byte b) (next_line line b) bs)) (λ _. omega (arith, words_few (is_word_byte b) (next_line line b) bs))

put_few : {K : Type 0} (cmp : K → K → Ordering) (key : K) (keys : List K) → length (put_once cmp key keys) ≤ length keys + 1
put_few cmp key [] = omega arith
put_few cmp key (k ∷ keys) =
    elim (cmp key k) as (λ r. length (by_order r (key ∷ k ∷ keys) (k ∷ keys) (k ∷ put_once cmp key keys)) ≤ length (k ∷ keys) + 1) [
      | Less ↦ omega arith
      | Equal ↦ omega arith
      | Greater ↦ omega (arith, put_few cmp key keys)
    ]

sorted_few : {K : Type 0} (cmp : K → K → Ordering) (keys : List K) → length (sorted_once cmp keys) ≤ length keys
sorted_few cmp [] = omega arith
sorted_few cmp (key ∷ keys) = omega (arith, put_few cmp key (sorted_once cmp keys), sorted_few cmp keys)

postings_few : (line : ℕ) (bs : List ℕ) → length (postings_of line bs) ≤ length bs
postings_few line bs = omega (arith, sorted_few posting_cmp (words_from line bs), length-map (words_within false line bs) stopped, words_few false line bs)

-- ---- the content

items_count : (ps : List Posting) → count (data_of (map item_means (map item_of ps))) ≡ length ps
items_count [] = refl
items_count (p ∷ ps) = omega (arith, items_count ps)

items_range : (ps : List Posting) → AllByRecursion IsPosting ps → are_in_range (data_of (map item_means (map item_of ps))) ≡ true
items_range [] all = refl
items_range (p ∷ ps) all = both_true (is_in_range (item_means (item_of p))) _ all.0 (items_range ps all.1)

list_range : (ps : List Posting) → length ps < 2 ^ 64 → AllByRecursion IsPosting ps → is_in_range (a_list (data_of (map item_means (map item_of ps)))) ≡ true
list_range ps short all =
    both_true (nat_lt (count (data_of (map item_means (map item_of ps)))) (2 ^ 64)) _
    (ap (λ n. nat_lt n (2 ^ 64)) (items_count ps) ∙ lt-ltb (length ps) (2 ^ 64) short) (items_range ps all)

pub postings_range : (c : Chunk) → HasRanges c → is_in_range (postings_means (postings_at c)) ≡ true
postings_range c h =
    let short = ltb-true (length c.bytes) (2 ^ 64) (first_of_and (nat_lt (length c.bytes) (2 ^ 64)) (list_all (λ b. nat_lt b 256) c.bytes) h.bytes) in
    let listed = list_range (postings_of c.line c.bytes) (omega (arith, short, postings_few c.line c.bytes)) (sorted_sound IsPosting posting_cmp (words_from c.line c.bytes) (words_sound false c.line c.bytes short)) in
    both_true (nat_lt c.file (2 ^ 64)) _ h.file (both_true (is_in_range (a_list (data_of (map item_means (postings_at c).items)))) true listed refl)
