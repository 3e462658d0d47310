-- Indexes that are filled with the same entries.
use Rattle.std.proofs.Common.{◌≡◌, ℕ, zero, suc, ◌+◌, ◌-◌, ◌^◌, ◌<◌, length, arith, Bool, true, false, cond, List, [], ◌∷◌, Option, Some, None, refl, sym, ap, subst, ◌∙◌}
use Rattle.std.specs.Prelude.{◌↔◌, ◌&&◌, ◌||◌, is_some, unwrap_or, Contains, All, slice_get}
use Rattle.std.specs.List.{list_any}
use Rattle.std.specs.Ordering.{nat_cmp}
use Rattle.std.specs.Cmp.{IsEquivalence, nat_cmp_total, both_ways}
use Rattle.std.specs.Cmp.Lexicographic.{slice_cmp, nat_list_cmp_total}
use Rattle.std.proofs.lemmas.Cmp.{on_equiv, and_equiv, eq_by_cmp_equiv}
use Rattle.std.proofs.lemmas.Map.Views.{list_any-from_Contains, Contains-from_any}
use Rattle.std.specs.FinMap as map
use Rattle.std.specs.FinMap.{nat_cmp-IsAntisymmetric}
use Rattle.caf_index.specs.Index.{Entries, Files, Lines, files_of, lines_in, has_entry, with_line, with_entry}
use Rattle.caf_index.specs.Words.{words_of}
use Rattle.caf_index.specs.PlainIndex.{StandsInFile, with_words, with_files, plain_index_of}
use Rattle.caf_index.specs.Filled.{Entry, with_entries, filled_with, HaveTheSame, AreThePlainOnes, IsFromAChunk}
use Rattle.caf_index.proofs.IndexLemmas.{words_apart, same_unit}
use Rattle.caf_index.proofs.EntryLemmas.{same_number, same_word, number_from, word_from, has-empty, has-with_entry, contains-with_line}
use Rattle.caf_index.proofs.OccurrenceLemmas.{left_true, right_true, number_itself, or_left, and_true}
use Rattle.caf_index.proofs.PlainIndexLemmas.{stands_from_entry, entry_from_stands}
use Rattle.caf_index.proofs.ChunkPostingsLemmas.{chunk-postings}

clash : (b : Bool) → b ≡ true → b ≡ false → ⊥
clash true e f = cc
clash false e f = cc

-- ---- maps without empty parts

-- each file that a word has, has a line
abbrev EachFileHasALine : Files → Type 0
EachFileHasALine files = (file : ℕ) (lines : Lines) → map.get files file ≡ Some lines → (line : ℕ) × (map.contains_key lines line ≡ true)

record HasNoEmptyFile (files : Files) : Type 0 where
  file : ℕ
  line : ℕ
  has : map.contains_key (lines_in files file) line ≡ true
  each : EachFileHasALine files

-- each word has a file with a line
abbrev IsFull : Entries → Type 0
IsFull index = (word : List ℕ) (files : Files) → map.get index word ≡ Some files → HasNoEmptyFile files

same_some : {A : Type 0} (a b : A) → Some a ≡ Some b → a ≡ b
same_some a b e = ap (λ o. unwrap_or o a) e

full-empty : IsFull map.empty
full-empty word files is = absurd (no_file (map.get map.empty word) files (map.get-empty (slice_cmp nat_cmp) word) is)
  where
    no_file : (o : Option Files) (files : Files) → o ≡ None → o ≡ Some files → ⊥
    no_file None files e f = cc
    no_file (Some x) files e f = cc

each-empty : EachFileHasALine map.empty
each-empty file lines is = absurd (no_line (map.get map.empty file) lines (map.get-empty nat_cmp file) is)
  where
    no_line : (o : Option Lines) (lines : Lines) → o ≡ None → o ≡ Some lines → ⊥
    no_line None lines e f = cc
    no_line (Some x) lines e f = cc

-- the files that a full index has for a word
each-of : (index : Entries) (word : List ℕ) → IsFull index → EachFileHasALine (files_of index word)
each-of index word full = at (map.get index word) refl
  where
    at : (o : Option Files) → map.get index word ≡ o → EachFileHasALine (unwrap_or o map.empty)
    at None e = each-empty
    at (Some files) e = (full word files e).each

-- ---- they stay so

contains-new : (lines : Lines) (line : ℕ) → map.contains_key (map.insert lines line tt) line ≡ true
contains-new lines line =
    ap is_some (map.get-insert nat_cmp_total lines line tt line)
    ∙ ap (λ (b : Bool). is_some (cond b (Some tt) (map.get lines line))) (number_itself line)

each-with_line : (files : Files) (file line : ℕ) → EachFileHasALine files → EachFileHasALine (with_line files file line)
each-with_line files file line each f lines is = at (same_number f file) (sym (map.get-insert nat_cmp_total files file (map.insert (lines_in files file) line tt) f) ∙ is)
  where
    at : (b : Bool) → cond b (Some (map.insert (lines_in files file) line tt)) (map.get files f) ≡ Some lines → (l : ℕ) × (map.contains_key lines l ≡ true)
    at true e = (line, ap (λ (m : Lines). map.contains_key m line) (sym (same_some (map.insert (lines_in files file) line tt) lines e)) ∙ contains-new (lines_in files file) line)
    at false e = each f lines e

full-with_entry : (index : Entries) (word : List ℕ) (file line : ℕ) → IsFull index → IsFull (with_entry index word file line)
full-with_entry index word file line full w files is = at (same_word w word) (sym (map.get-insert nat_list_cmp_total index word (with_line (files_of index word) file line) w) ∙ is)
  where
    new : HasNoEmptyFile (with_line (files_of index word) file line)
    new = record {
      file = file;
      line = line;
      has = contains-with_line (files_of index word) file line file line ∙ or_left _ _ (and_true _ _ (number_itself file) (number_itself line));
      each = each-with_line (files_of index word) file line (each-of index word full);
    }

    at : (b : Bool) → cond b (Some (with_line (files_of index word) file line)) (map.get index w) ≡ Some files → HasNoEmptyFile files
    at true e = subst HasNoEmptyFile (same_some (with_line (files_of index word) file line) files e) new
    at false e = full w files e

full-with_entries : (index : Entries) (es : List Entry) → IsFull index → IsFull (with_entries index es)
full-with_entries index [] full = full
full-with_entries index (e ∷ es) full = full-with_entries (with_entry index e.word e.file e.line) es (full-with_entry index e.word e.file e.line full)

full-with_words : (index : Entries) (file : ℕ) (words : List (List ℕ × ℕ)) → IsFull index → IsFull (with_words index file words)
full-with_words index file [] full = full
full-with_words index file (w ∷ words) full = full-with_words (with_entry index w.0 file w.1) file words (full-with_entry index w.0 file w.1 full)

full-with_files : (index : Entries) (file : ℕ) (files : List (List ℕ)) → IsFull index → IsFull (with_files index file files)
full-with_files index file [] full = full
full-with_files index file (bytes ∷ files) full = full-with_files (with_words index file (words_of bytes)) (file + 1) files (full-with_words index file (words_of bytes) full)

-- ---- such maps with the same entries are one

none-in-empty : (line : ℕ) → map.contains_key {X = Unit {0}} {R = nat_cmp} map.empty line ≡ false
none-in-empty line = ap is_some (map.get-empty nat_cmp line)

none-in-no-file : (file line : ℕ) → map.contains_key (lines_in map.empty file) line ≡ false
none-in-no-file file line = ap (λ (o : Option Lines). map.contains_key (unwrap_or o map.empty) line) (map.get-empty nat_cmp file) ∙ none-in-empty line

same-lines : (o p : Option Lines) → ((lines : Lines) → o ≡ Some lines → (line : ℕ) × (map.contains_key lines line ≡ true)) → ((lines : Lines) → p ≡ Some lines → (line : ℕ) × (map.contains_key lines line ≡ true))
    → ((line : ℕ) → map.contains_key (unwrap_or o map.empty) line ≡ map.contains_key (unwrap_or p map.empty) line) → o ≡ p
same-lines None None f g same = refl
same-lines None (Some y) f g same = (let w = g y refl in absurd (clash _ w.1 (sym (same w.0) ∙ none-in-empty w.0)))
same-lines (Some x) None f g same = (let w = f x refl in absurd (clash _ w.1 (same w.0 ∙ none-in-empty w.0)))
same-lines (Some x) (Some y) f g same = ap Some (map.same_map nat_cmp_total nat_cmp-IsAntisymmetric x y (λ line. same_unit _ _ (same line)))

same-files : (x y : Files) → EachFileHasALine x → EachFileHasALine y → ((file line : ℕ) → map.contains_key (lines_in x file) line ≡ map.contains_key (lines_in y file) line) → x ≡ y
same-files x y f g same = map.same_map nat_cmp_total nat_cmp-IsAntisymmetric x y (λ file. same-lines (map.get x file) (map.get y file) (f file) (g file) (same file))

same-word : (o p : Option Files) → ((files : Files) → o ≡ Some files → HasNoEmptyFile files) → ((files : Files) → p ≡ Some files → HasNoEmptyFile files)
    → ((file line : ℕ) → map.contains_key (lines_in (unwrap_or o map.empty) file) line ≡ map.contains_key (lines_in (unwrap_or p map.empty) file) line) → o ≡ p
same-word None None f g same = refl
same-word None (Some y) f g same = (let h = g y refl in absurd (clash _ h.has (sym (same h.file h.line) ∙ none-in-no-file h.file h.line)))
same-word (Some x) None f g same = (let h = f x refl in absurd (clash _ h.has (same h.file h.line ∙ none-in-no-file h.file h.line)))
same-word (Some x) (Some y) f g same = ap Some (same-files x y (f x refl).each (g y refl).each same)

same-index : (i j : Entries) → IsFull i → IsFull j → ((word : List ℕ) (file line : ℕ) → has_entry i word file line ≡ has_entry j word file line) → i ≡ j
same-index i j f g same = map.same_map nat_list_cmp_total words_apart i j (λ word. same-word (map.get i word) (map.get j word) (f word) (g word) (same word))

-- ---- the entries of an index that was filled

same_entry : Entry → Entry → Bool
same_entry a b = same_word a.word b.word && (same_number a.file b.file && same_number a.line b.line)

entries-apart : (a b : Entry) → same_entry a b ≡ true → a ≡ b
unfolding same_entry
entries-apart a b e =
    ap (λ (w : List ℕ). record { word = w; file = a.file; line = a.line }) (word_from a.word b.word (left_true _ _ e))
    ∙ ap (λ (n : ℕ). record { word = b.word; file = n; line = a.line }) (number_from a.file b.file (left_true _ _ (right_true _ _ e)))
    ∙ ap (λ (n : ℕ). record { word = b.word; file = b.file; line = n }) (number_from a.line b.line (right_true _ _ (right_true _ _ e)))

entries-equiv : IsEquivalence same_entry
unfolding same_entry
entries-equiv = and_equiv (on_equiv (λ (e : Entry). e.word) (eq_by_cmp_equiv nat_list_cmp_total)) (and_equiv (on_equiv (λ (e : Entry). e.file) (eq_by_cmp_equiv nat_cmp_total)) (on_equiv (λ (e : Entry). e.line) (eq_by_cmp_equiv nat_cmp_total)))

moved : (a t h : Bool) → (a || (t || h)) ≡ ((t || a) || h)
moved true true h = refl
moved true false h = refl
moved false true h = refl
moved false false h = refl

has-with_entries : (index : Entries) (es : List Entry) (e : Entry) → has_entry (with_entries index es) e.word e.file e.line ≡ (list_any (same_entry e) es || has_entry index e.word e.file e.line)
unfolding same_entry
has-with_entries index [] e = refl
has-with_entries index (d ∷ es) e =
    has-with_entries (with_entry index d.word d.file d.line) es e
    ∙ ap (λ (b : Bool). list_any (same_entry e) es || b) (has-with_entry index d.word d.file d.line e.word e.file e.line)
    ∙ moved (list_any (same_entry e) es) (same_entry e d) (has_entry index e.word e.file e.line)

or_false : (a : Bool) → (a || false) ≡ a
or_false true = refl
or_false false = refl

has-filled : (es : List Entry) (e : Entry) → has_entry (filled_with es) e.word e.file e.line ≡ list_any (same_entry e) es
has-filled es e =
    has-with_entries map.empty es e
    ∙ ap (λ (b : Bool). list_any (same_entry e) es || b) (has-empty e.word e.file e.line)
    ∙ or_false (list_any (same_entry e) es)

listed : (es : List Entry) (e : Entry) → Contains es e → list_any (same_entry e) es ≡ true
listed es e has = list_any-from_Contains entries-equiv e es has

from-listed : (es : List Entry) (e : Entry) → list_any (same_entry e) es ≡ true → Contains es e
from-listed es e is = Contains-from_any {eq = same_entry} entries-apart e es is

full-filled : (es : List Entry) → IsFull (filled_with es)
full-filled es = full-with_entries map.empty es full-empty

pub same-entries : (es fs : List Entry) → HaveTheSame es fs → filled_with es ≡ filled_with fs
same-entries es fs same = same-index (filled_with es) (filled_with fs) (full-filled es) (full-filled fs) (λ word file line.
    let e : Entry = record { word = word; file = file; line = line } in
    has-filled es e
    ∙ both_ways _ _ (λ is. listed fs e ((same e).0 (from-listed es e is))) (λ is. listed es e ((same e).1 (from-listed fs e is)))
    ∙ sym (has-filled fs e))

pub filled-plain : (files : List (List ℕ)) (es : List Entry) → AreThePlainOnes files es → filled_with es ≡ plain_index_of files
filled-plain files es same = same-index (filled_with es) (plain_index_of files) (full-filled es) (full-with_files map.empty 1 files full-empty) (λ word file line.
    let e : Entry = record { word = word; file = file; line = line } in
    both_ways _ _ (λ is. entry_from_stands files word file line ((same e).0 (from-listed es e (sym (has-filled es e) ∙ is)))) (λ is. has-filled es e ∙ listed es e ((same e).1 (stands_from_entry files word file line is))))

-- ---- the postings of chunks

-- what is true of each file
of-file : (P : List ℕ → Type 0) (files : List (List ℕ)) (place : ℕ) (bytes : List ℕ) → All P files → slice_get files place ≡ Some bytes → P bytes
of-file P [] place bytes all is = cc
of-file P (b ∷ files) zero bytes all is = subst P (same_some b bytes is) (all 0 b (omega arith))
of-file P (b ∷ files) (suc place) bytes all is = of-file P files place bytes (λ k d lt. all (suc k) d (omega arith)) is

plain-from : (files : List (List ℕ)) (e : Entry) → All (λ bytes. length bytes < 2 ^ 64) files → IsFromAChunk files e → StandsInFile files e.word e.file e.line
plain-from files e small is = record {
  from_one = is.from_one;
  bytes = is.bytes;
  is_file = is.is_file;
  stands = (chunk-postings is.bytes e.word e.line (of-file (λ bytes. length bytes < 2 ^ 64) files (e.file - 1) is.bytes small is.is_file)).0 is.posting;
}

from-plain : (files : List (List ℕ)) (e : Entry) → All (λ bytes. length bytes < 2 ^ 64) files → StandsInFile files e.word e.file e.line → IsFromAChunk files e
from-plain files e small s = record {
  from_one = s.from_one;
  bytes = s.bytes;
  is_file = s.is_file;
  posting = (chunk-postings s.bytes e.word e.line (of-file (λ bytes. length bytes < 2 ^ 64) files (e.file - 1) s.bytes small s.is_file)).1 s.stands;
}

pub postings-fill : (files : List (List ℕ)) (es : List Entry) → All (λ bytes. length bytes < 2 ^ 64) files → ((e : Entry) → Contains es e ↔ IsFromAChunk files e) → filled_with es ≡ plain_index_of files
postings-fill files es small same = filled-plain files es (λ e. (λ has. plain-from files e small ((same e).0 has), λ stands. (same e).1 (from-plain files e small stands)))
