-- The list of a file's words has exactly the words that stand in it.
use Rattle.std.proofs.Common.{◌≡◌, ℕ, zero, suc, ◌+◌, ◌<◌, Bool, true, false, cond, not, List, [], ◌∷◌, ◌++◌, length, refl, sym, ap, subst, ◌∙◌, arith}
use Rattle.std.specs.Prelude.{◌&&◌, ◌||◌, if◌then◌else◌, IsTrue, All, map, take_while, count_by}
use Rattle.std.specs.Ordering.{is_eq}
use Rattle.std.specs.Cmp.{nat_cmp_total, tied_itself}
use Rattle.std.specs.Cmp.Lexicographic.{nat_list_cmp_total}
use Rattle.std.proofs.lemmas.List.Sums.{take_while-cons, sum_by-cons}
use Rattle.std.proofs.lemmas.List.Folds.{list_any-append}
use Rattle.caf_index.specs.Words.{is_word_byte, is_line_end, lower_case, begins_with_word_byte, ends_with_word_byte, StandsWithin, first_word, next_line, words_within}
use Rattle.caf_index.proofs.EntryLemmas.{same_number, same_word, is_listed, number_from, word_from}

abbrev HasWordBytes : List ℕ → Type 0
HasWordBytes run = All (λ byte. IsTrue (is_word_byte byte)) run

pub left_true : (a b : Bool) → IsTrue (a && b) → IsTrue a
left_true true b h = refl
left_true false b h = h

pub right_true : (a b : Bool) → IsTrue (a && b) → IsTrue b
right_true true b h = h
right_true false b h = cc

pub or_right : (a b : Bool) → IsTrue b → IsTrue (a || b)
or_right true b h = refl
or_right false b h = h

pub or_left : (a b : Bool) → IsTrue a → IsTrue (a || b)
or_left a b h = ap (λ t. t || b) h

pub and_true : (a b : Bool) → IsTrue a → IsTrue b → IsTrue (a && b)
and_true a b g h = ap (λ t. t && b) g ∙ h

word_itself : (w : List ℕ) → IsTrue (same_word w w)
word_itself w = ap is_eq (tied_itself nat_list_cmp_total w)

pub number_itself : (n : ℕ) → IsTrue (same_number n n)
number_itself n = ap is_eq (tied_itself nat_cmp_total n)

take_while-gap : (after : List ℕ) → begins_with_word_byte after ≡ false → take_while is_word_byte after ≡ []
take_while-gap [] h = refl
take_while-gap (c ∷ after) h = take_while-cons is_word_byte c after ∙ ap (λ t. cond t (c ∷ take_while is_word_byte after) []) h

take_while-run : (run after : List ℕ) → HasWordBytes run → begins_with_word_byte after ≡ false → take_while is_word_byte (run ++ after) ≡ run
take_while-run [] after all gap = take_while-gap after gap
take_while-run (b ∷ run) after all gap =
    take_while-cons is_word_byte b (run ++ after)
    ∙ ap (λ t. cond t (b ∷ take_while is_word_byte (run ++ after)) []) (all 0 0 (omega arith))
    ∙ ap (λ bs. b ∷ bs) (take_while-run run after (λ k d lt. all (suc k) d (omega arith)) gap)

-- the longest first run of word bytes, and what follows
record FirstRun (bytes : List ℕ) : Type 0 where
  after : List ℕ
  parts : bytes ≡ take_while is_word_byte bytes ++ after
  gap : begins_with_word_byte after ≡ false
  run : HasWordBytes (take_while is_word_byte bytes)

all_more : (b : ℕ) (run : List ℕ) → IsTrue (is_word_byte b) → HasWordBytes run → HasWordBytes (b ∷ run)
all_more b run h all zero d lt = h
all_more b run h all (suc k) d lt = all k d (omega arith)

first_run_by : (b : ℕ) (bytes : List ℕ) (t : Bool) → is_word_byte b ≡ t → FirstRun bytes → FirstRun (b ∷ bytes)
first_run_by b bytes true e rest =
    let longer : take_while is_word_byte (b ∷ bytes) ≡ b ∷ take_while is_word_byte bytes = take_while-cons is_word_byte b bytes ∙ ap (λ t. cond t (b ∷ take_while is_word_byte bytes) []) e in
    record {
      after = rest.after;
      parts = ap (λ bs. b ∷ bs) rest.parts ∙ ap (λ bs. bs ++ rest.after) (sym longer);
      gap = rest.gap;
      run = subst HasWordBytes (sym longer) (all_more b (take_while is_word_byte bytes) e rest.run);
    }
first_run_by b bytes false e rest =
    let none : take_while is_word_byte (b ∷ bytes) ≡ [] = take_while-cons is_word_byte b bytes ∙ ap (λ t. cond t (b ∷ take_while is_word_byte bytes) []) e in
    record {
      after = b ∷ bytes;
      parts = ap (λ bs. bs ++ b ∷ bytes) (sym none);
      gap = e;
      run = subst HasWordBytes (sym none) (λ k d lt. absurd (omega arith));
    }

first_run : (bytes : List ℕ) → FirstRun bytes
first_run [] = record { after = []; parts = refl; gap = refl; run = λ k d lt. absurd (omega arith) }
first_run (b ∷ bytes) = first_run_by b bytes (is_word_byte b) refl (first_run bytes)

-- the line of what stands behind a byte
pub line_behind : (first b : ℕ) (before : List ℕ) → next_line first b + count_by is_line_end before ≡ first + count_by is_line_end (b ∷ before)
line_behind first b before =
    let more : count_by is_line_end (b ∷ before) ≡ cond (is_line_end b) 1 0 + count_by is_line_end before = sum_by-cons (λ byte. cond (is_line_end byte) 1 0) b before in
    counted (is_line_end b) first (count_by is_line_end before) (count_by is_line_end (b ∷ before)) more
  where
    counted : (t : Bool) (first rest all : ℕ) → all ≡ cond t 1 0 + rest → (if t then first + 1 else first) + rest ≡ first + all
    counted true first rest all e = omega arith
    counted false first rest all e = omega arith

behind : (inside : Bool) (first b : ℕ) (bytes word : List ℕ) (line : ℕ) → StandsWithin (is_word_byte b) (next_line first b) bytes word line → StandsWithin inside first (b ∷ bytes) word line
behind inside first b bytes word line s = record {
  before = b ∷ s.before;
  run = s.run;
  after = s.after;
  parts = ap (λ bs. b ∷ bs) s.parts;
  has_bytes = s.has_bytes;
  has_word_bytes = s.has_word_bytes;
  none_before = s.none_before;
  none_after = s.none_after;
  is_word = s.is_word;
  is_line = s.is_line ∙ line_behind first b s.before;
}

here_from : (first b : ℕ) (bytes word : List ℕ) (line : ℕ) → IsTrue (is_word_byte b) → word ≡ first_word (b ∷ bytes) → line ≡ first → StandsWithin false first (b ∷ bytes) word line
here_from first b bytes word line h is_first is_here =
    let split = first_run (b ∷ bytes) in
    let longer : take_while is_word_byte (b ∷ bytes) ≡ b ∷ take_while is_word_byte bytes = take_while-cons is_word_byte b bytes ∙ ap (λ t. cond t (b ∷ take_while is_word_byte bytes) []) h in
    record {
      before = [];
      run = take_while is_word_byte (b ∷ bytes);
      after = split.after;
      parts = split.parts;
      has_bytes = (let size : length (take_while is_word_byte (b ∷ bytes)) ≡ suc (length (take_while is_word_byte bytes)) = ap length longer in omega (arith, size));
      has_word_bytes = split.run;
      none_before = refl;
      none_after = split.gap;
      is_word = is_first;
      is_line = (let same : line ≡ first + 0 = omega (arith, is_here) in same);
    }

-- the words that are listed behind a byte
abbrev IsListedBehind : ℕ → ℕ → List ℕ → List ℕ → ℕ → Type 0
IsListedBehind first b bytes word line = IsTrue (is_listed word line (words_within (is_word_byte b) (next_line first b) bytes))

module _ (first b : ℕ) (bytes word : List ℕ) (line : ℕ) (rest : IsListedBehind first b bytes word line → StandsWithin (is_word_byte b) (next_line first b) bytes word line) where
  now_or_later : (t : Bool) → (same_word word (first_word (b ∷ bytes)) && same_number line first) ≡ t → is_word_byte b ≡ true
      → IsTrue ((t || false) || is_listed word line (words_within (is_word_byte b) (next_line first b) bytes)) → StandsWithin false first (b ∷ bytes) word line
  now_or_later true e word_byte g = here_from first b bytes word line word_byte (word_from _ _ (left_true _ _ e)) (number_from _ _ (right_true _ _ e))
  now_or_later false e word_byte g = behind false first b bytes word line (rest g)

  listed_cases : (inside t : Bool) → is_word_byte b ≡ t
      → IsTrue (is_listed word line (if t && not inside then (first_word (b ∷ bytes), first) ∷ [] else []) || is_listed word line (words_within (is_word_byte b) (next_line first b) bytes)) → StandsWithin inside first (b ∷ bytes) word line
  listed_cases inside false e g = behind inside first b bytes word line (rest g)
  listed_cases true true e g = behind true first b bytes word line (rest g)
  listed_cases false true e g = now_or_later _ refl e g

-- what is listed stands there
pub stands_from_listed : (inside : Bool) (first : ℕ) (bytes word : List ℕ) (line : ℕ) → IsTrue (is_listed word line (words_within inside first bytes)) → StandsWithin inside first bytes word line
stands_from_listed inside first [] word line h = cc
stands_from_listed inside first (b ∷ bytes) word line h =
    listed_cases first b bytes word line (stands_from_listed (is_word_byte b) (next_line first b) bytes word line) inside (is_word_byte b) refl
    (sym (list_any-append _ (if is_word_byte b && not inside then (first_word (b ∷ bytes), first) ∷ [] else []) (words_within (is_word_byte b) (next_line first b) bytes)) ∙ h)

listed_here : (first : ℕ) (run after word : List ℕ) (line : ℕ) → 0 < length run → HasWordBytes run → begins_with_word_byte after ≡ false → word ≡ map lower_case run → line ≡ first + 0 → IsTrue (is_listed word line (words_within false first (run ++ after)))
listed_here first [] after word line some all gap is_word is_line = absurd (omega arith)
listed_here first (b ∷ run) after word line some all gap is_word is_line =
    let bytes = run ++ after in
    let word_byte : is_word_byte b ≡ true = all 0 0 (omega arith) in
    let same : word ≡ first_word (b ∷ (run ++ after)) = is_word ∙ ap (map lower_case) (sym (take_while-run (b ∷ run) after all gap)) in
    let number : line ≡ first = omega (arith, is_line) in
    ap (λ t. is_listed word line ((if t && true then (first_word (b ∷ bytes), first) ∷ [] else []) ++ words_within t (next_line first b) bytes)) word_byte
    ∙ or_left _ _ (and_true _ _ (subst (λ v. IsTrue (same_word word v)) same (word_itself word)) (subst (λ n. IsTrue (same_number line n)) number (number_itself line)))

listed_at : (inside : Bool) (first : ℕ) (before run after word : List ℕ) (line : ℕ) → 0 < length run → HasWordBytes run → ends_with_word_byte inside before ≡ false → begins_with_word_byte after ≡ false → word ≡ map lower_case run → line ≡ first + count_by is_line_end before
    → IsTrue (is_listed word line (words_within inside first (before ++ (run ++ after))))
listed_at inside first [] run after word line some all outside gap is_word is_line =
    subst (λ t. IsTrue (is_listed word line (words_within t first (run ++ after)))) (sym outside) (listed_here first run after word line some all gap is_word is_line)
listed_at inside first (b ∷ before) run after word line some all outside gap is_word is_line =
    list_any-append _ (if is_word_byte b && not inside then (first_word (b ∷ (before ++ (run ++ after))), first) ∷ [] else []) (words_within (is_word_byte b) (next_line first b) (before ++ (run ++ after)))
    ∙ or_right _ _ (listed_at (is_word_byte b) (next_line first b) before run after word line some all outside gap is_word (is_line ∙ sym (line_behind first b before)))

-- and what stands there is listed
pub listed_from_stands : (inside : Bool) (first : ℕ) (bytes word : List ℕ) (line : ℕ) → StandsWithin inside first bytes word line → IsTrue (is_listed word line (words_within inside first bytes))
listed_from_stands inside first bytes word line s =
    subst (λ bs. IsTrue (is_listed word line (words_within inside first bs))) (sym s.parts)
    (listed_at inside first s.before s.run s.after word line s.has_bytes s.has_word_bytes s.none_before s.none_after s.is_word s.is_line)
