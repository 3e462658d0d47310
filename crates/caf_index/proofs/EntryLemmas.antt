-- Which entries an index has after more were put in.
use Rattle.std.proofs.Common.{◌≡◌, ℕ, Bool, true, false, cond, List, [], ◌∷◌, Option, Some, refl, sym, ap, ◌∙◌}
use Rattle.std.specs.Prelude.{◌&&◌, ◌||◌, is_some, unwrap_or}
use Rattle.std.specs.List.{list_any}
use Rattle.std.specs.Ordering.{nat_cmp, is_eq, eq_by_cmp}
use Rattle.std.specs.declared.cmp.Ordering.{Ordering}
use Rattle.std.specs.declared.cmp.Ordering.TheVariants.{Less, Equal, Greater}
use Rattle.std.specs.Cmp.{nat_cmp_total}
use Rattle.std.specs.Cmp.Lexicographic.{slice_cmp, nat_list_cmp_total}
use Rattle.std.specs.FinMap as map
use Rattle.std.specs.FinMap.{nat_cmp-IsAntisymmetric}
use Rattle.caf_index.specs.Index.{Entries, Files, Lines, files_of, lines_in, has_entry, with_line, with_entry}
use Rattle.caf_index.specs.PlainIndex.{with_words}
use Rattle.caf_index.proofs.IndexLemmas.{words_apart}

abbrev pub same_number : ℕ → ℕ → Bool
same_number a b = eq_by_cmp nat_cmp a b

abbrev pub same_word : List ℕ → List ℕ → Bool
same_word a b = eq_by_cmp (slice_cmp nat_cmp) a b

-- the word is listed with that line
abbrev pub is_listed : List ℕ → ℕ → List (List ℕ × ℕ) → Bool
is_listed word line words = list_any (λ (p : List ℕ × ℕ). same_word word p.0 && same_number line p.1) words

tie_from : (r : Ordering) → is_eq r ≡ true → r ≡ Equal
tie_from Less e = cc
tie_from Equal e = refl
tie_from Greater e = cc

pub number_from : (a b : ℕ) → same_number a b ≡ true → a ≡ b
number_from a b e = nat_cmp-IsAntisymmetric a b (tie_from _ e)

pub word_from : (a b : List ℕ) → same_word a b ≡ true → a ≡ b
word_from a b e = words_apart a b (tie_from _ e)

some_or : (b : Bool) (o : Option (Unit {0})) → is_some (cond b (Some tt) o) ≡ (b || is_some o)
some_or true o = refl
some_or false o = refl

line_cases : (files : Files) (file line f l : ℕ) (b : Bool) → same_number f file ≡ b
    → map.contains_key (unwrap_or (cond b (Some (map.insert (lines_in files file) line tt)) (map.get files f)) map.empty) l ≡ ((b && same_number l line) || map.contains_key (lines_in files f) l)
line_cases files file line f l true e =
    ap is_some (map.get-insert nat_cmp_total (lines_in files file) line tt l) ∙ some_or (same_number l line) (map.get (lines_in files file) l)
    ∙ ap (λ q. same_number l line || map.contains_key (lines_in files q) l) (sym (number_from f file e))
line_cases files file line f l false e = refl

pub contains-with_line : (files : Files) (file line f l : ℕ) → map.contains_key (lines_in (with_line files file line) f) l ≡ ((same_number f file && same_number l line) || map.contains_key (lines_in files f) l)
contains-with_line files file line f l =
    ap (λ o. map.contains_key (unwrap_or o map.empty) l) (map.get-insert nat_cmp_total files file (map.insert (lines_in files file) line tt) f)
    ∙ line_cases files file line f l (same_number f file) refl

entry_cases : (index : Entries) (word : List ℕ) (file line : ℕ) (w : List ℕ) (f l : ℕ) (b : Bool) → same_word w word ≡ b
    → map.contains_key (lines_in (unwrap_or (cond b (Some (with_line (files_of index word) file line)) (map.get index w)) map.empty) f) l ≡ ((b && (same_number f file && same_number l line)) || has_entry index w f l)
entry_cases index word file line w f l true e =
    contains-with_line (files_of index word) file line f l
    ∙ ap (λ q. (same_number f file && same_number l line) || has_entry index q f l) (sym (word_from w word e))
entry_cases index word file line w f l false e = refl

-- an index with one entry more has it, and what it had
pub has-with_entry : (index : Entries) (word : List ℕ) (file line : ℕ) (w : List ℕ) (f l : ℕ) → has_entry (with_entry index word file line) w f l ≡ ((same_word w word && (same_number f file && same_number l line)) || has_entry index w f l)
has-with_entry index word file line w f l =
    ap (λ o. map.contains_key (lines_in (unwrap_or o map.empty) f) l) (map.get-insert nat_list_cmp_total index word (with_line (files_of index word) file line) w)
    ∙ entry_cases index word file line w f l (same_word w word) refl

pub has-empty : (w : List ℕ) (f l : ℕ) → has_entry map.empty w f l ≡ false
has-empty w f l =
    ap (λ (o : Option Files). map.contains_key (lines_in (unwrap_or o map.empty) f) l) (map.get-empty (slice_cmp nat_cmp) w)
    ∙ ap (λ (o : Option Lines). map.contains_key (unwrap_or o map.empty) l) (map.get-empty nat_cmp f)
    ∙ ap is_some (map.get-empty nat_cmp l)

and_false : (a h : Bool) → h ≡ ((a && false) || h)
and_false true h = refl
and_false false h = refl

regrouped : (f l w e h : Bool) → ((f && l) || ((w && (f && e)) || h)) ≡ ((f && ((w && e) || l)) || h)
regrouped false l true e h = refl
regrouped false l false e h = refl
regrouped true true true true h = refl
regrouped true true true false h = refl
regrouped true true false e h = refl
regrouped true false true true h = refl
regrouped true false true false h = refl
regrouped true false false e h = refl

-- an index with the words of a file has these, and what it had
pub has-with_words : (index : Entries) (file : ℕ) (words : List (List ℕ × ℕ)) (w : List ℕ) (f l : ℕ) → has_entry (with_words index file words) w f l ≡ ((same_number f file && is_listed w l words) || has_entry index w f l)
has-with_words index file [] w f l = and_false (same_number f file) (has_entry index w f l)
has-with_words index file (p ∷ words) w f l =
    has-with_words (with_entry index p.0 file p.1) file words w f l
    ∙ ap (λ b. (same_number f file && is_listed w l words) || b) (has-with_entry index p.0 file p.1 w f l)
    ∙ regrouped (same_number f file) (is_listed w l words) (same_word w p.0) (same_number l p.1) (has_entry index w f l)
