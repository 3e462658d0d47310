-- How many words the postings of bytes have as a message: at most twice as many as there are bytes, and 7 more.
use Rattle.std.proofs.Common.{◌≡◌, ℕ, zero, suc, ◌+◌, ◌*◌, ◌≤◌, Bool, true, false, List, [], ◌∷◌, ◌++◌, length, map, refl, ap, ◌∙◌, arith}
use Rattle.std.specs.Prelude.{◌&&◌, not, cond, if◌then◌else◌}
use Rattle.std.specs.List.{take_while}
use Rattle.std.specs.declared.cmp.Ordering.TheVariants.{Less, Equal, Greater}
use Rattle.std.specs.FinMap.Entries.{by_order}
use Rattle.std.proofs.lemmas.List.{length-append, map-append}
use Rattle.std.proofs.lemmas.List.Sums.{take_while-cons}
use Rattle.caf_words.specs.Datum.{data_of}
use Rattle.caf_words.specs.Spelling.{words_for, packed_in, packed, spelling, spellings}
use Rattle.caf_index.specs.Words.{is_word_byte, lower_case, first_word, next_line, words_within}
use Rattle.caf_index.specs.Postings.{stopped, words_from, posting_cmp, put_once, sorted_once, postings_of}
use Rattle.caf_index.specs.declared.posting.Posting.{Posting}
use Rattle.caf_kinds.specs.Contents.{item_means}
use Rattle.caf_kinds.specs.Counter.{item_of, postings_at}
use Rattle.caf_pipeline.specs.Postings.{PostingsFitAMessage}

-- ---- what postings weigh

-- as many words as the posting is spelled with
abbrev weight : Posting → ℕ
weight p = 3 + words_for (length p.word)

abbrev weigh : List Posting → ℕ
weigh [] = 0
weigh (p ∷ ps) = weight p + weigh ps

packed_length : (n : ℕ) (bs : List ℕ) → length (packed_in n bs) ≡ n
packed_length zero bs = refl
packed_length (suc n) bs = ap suc (packed_length n _)

item_length : (p : Posting) → length (spelling (item_means (item_of p))) ≡ weight p
item_length p =
    let text = packed_length (words_for (length p.word)) p.word in
    let joined = length-append (packed p.word) (p.line ∷ []) in
    omega (arith, text, joined)

items_length : (ps : List Posting) → length (spellings (data_of (map item_means (map item_of ps)))) ≡ weigh ps
items_length [] = refl
items_length (p ∷ ps) =
    let one = item_length p in
    let rest = items_length ps in
    let joined = length-append (spelling (item_means (item_of p))) (spellings (data_of (map item_means (map item_of ps)))) in
    omega (arith, one, rest, joined)

-- ---- sorting makes them no heavier

put_weighs : (p : Posting) (ps : List Posting) → weigh (put_once posting_cmp p ps) ≤ weight p + weigh ps
put_weighs p [] = omega arith
put_weighs p (q ∷ qs) =
    let rest = put_weighs p qs in
    elim (posting_cmp p q) as (λ r. weigh (by_order r (p ∷ q ∷ qs) (q ∷ qs) (q ∷ put_once posting_cmp p qs)) ≤ weight p + (weight q + weigh qs)) [
      | Less ↦ omega arith
      | Equal ↦ omega arith
      | Greater ↦ omega (arith, rest)
    ]

sorted_weighs : (ps : List Posting) → weigh (sorted_once posting_cmp ps) ≤ weigh ps
sorted_weighs [] = omega arith
sorted_weighs (p ∷ ps) =
    let one = put_weighs p (sorted_once posting_cmp ps) in
    let rest = sorted_weighs ps in
    omega (arith, one, rest)

-- ---- the words of bytes

weigh_joined : (ps qs : List Posting) → weigh (ps ++ qs) ≡ weigh ps + weigh qs
weigh_joined [] qs = omega arith
weigh_joined (p ∷ ps) qs = let rest = weigh_joined ps qs in omega (arith, rest)

-- what the words weigh that begin in the bytes
abbrev load : Bool → ℕ → List ℕ → ℕ
load inside line bs = weigh (map stopped (words_within inside line bs))

-- how many word bytes the bytes begin with
abbrev run : List ℕ → ℕ
run bs = length (first_word bs)

run_on : (b : ℕ) (bs : List ℕ) (t : Bool) → is_word_byte b ≡ t → run (b ∷ bs) ≡ cond t (suc (run bs)) 0
run_on b bs t e = ap (λ (ws : List ℕ). length (map lower_case ws)) (take_while-cons is_word_byte b bs) ∙ go t e
  where
    go : (t : Bool) → is_word_byte b ≡ t → length (map lower_case (cond (is_word_byte b) (b ∷ take_while is_word_byte bs) [])) ≡ cond t (suc (run bs)) 0
    go true e = ap (λ (t : Bool). length (map lower_case (cond t (b ∷ take_while is_word_byte bs) []))) e
    go false e = ap (λ (t : Bool). length (map lower_case (cond t (b ∷ take_while is_word_byte bs) []))) e

-- behind a byte that is none of a word, and in a word
record IsLight (bs : List ℕ) : Type 0 where
  pub between : (line : ℕ) → load false line bs ≤ 2 * length bs + 2
  pub inside : (line : ℕ) → load true line bs + 2 * run bs ≤ 2 * length bs

load_on : (inside : Bool) (line b : ℕ) (bs : List ℕ) (t : Bool) → is_word_byte b ≡ t
    → load inside line (b ∷ bs) ≡ weigh (map stopped (if t && not inside then (first_word (b ∷ bs), line) ∷ [] else [])) + load t (next_line line b) bs
load_on inside line b bs t e =
    ap (λ (u : Bool). weigh (map stopped ((if u && not inside then (first_word (b ∷ bs), line) ∷ [] else []) ++ words_within u (next_line line b) bs))) e
    ∙ ap weigh (map-append stopped (if t && not inside then (first_word (b ∷ bs), line) ∷ [] else []) (words_within t (next_line line b) bs))
    ∙ weigh_joined (map stopped (if t && not inside then (first_word (b ∷ bs), line) ∷ [] else [])) (map stopped (words_within t (next_line line b) bs))

light_on : (b : ℕ) (bs : List ℕ) (t : Bool) → is_word_byte b ≡ t → IsLight bs → IsLight (b ∷ bs)
light_on b bs true e light = record {
  between = λ line.
      let here = load_on false line b bs true e in
      let rest = light.inside (next_line line b) in
      let long = run_on b bs true e in
      omega (arith, here, rest, long);
  inside = λ line.
      let here = load_on true line b bs true e in
      let rest = light.inside (next_line line b) in
      let long = run_on b bs true e in
      omega (arith, here, rest, long);
}
light_on b bs false e light = record {
  between = λ line.
      let here = load_on false line b bs false e in
      let rest = light.between (next_line line b) in
      omega (arith, here, rest);
  inside = λ line.
      let here = load_on true line b bs false e in
      let rest = light.between (next_line line b) in
      let long = run_on b bs false e in
      omega (arith, here, rest, long);
}

light : (bs : List ℕ) → IsLight bs
light [] = record { between = λ line. omega arith; inside = λ line. omega arith }
light (b ∷ bs) = light_on b bs (is_word_byte b) refl (light bs)

-- ---- the message

pub postings_fit : PostingsFitAMessage
postings_fit c short =
    let items = items_length (postings_of c.line c.bytes) in
    let sorted = sorted_weighs (words_from c.line c.bytes) in
    let words = (light c.bytes).between c.line in
    let all = spellings (data_of (map item_means (postings_at c).items)) in
    let listed = length-append all [] in
    let closed = length-append (all ++ []) [] in
    omega (arith, items, sorted, words, listed, closed, short)
