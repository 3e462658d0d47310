-- The plain index has exactly the entries that stand in the files.
use Rattle.std.proofs.Common.{◌≡◌, ℕ, zero, suc, ◌+◌, ◌-◌, ◌≤◌, Bool, true, false, List, [], ◌∷◌, length, drop, Some, refl, sym, ap, subst, ◌∙◌, arith, ◌⊎◌, inl, inr}
use Rattle.std.specs.Prelude.{◌&&◌, ◌||◌, IsTrue, slice_get, unwrap_or}
use Rattle.std.specs.FinMap as finite
use Rattle.caf_index.specs.Words.{words_of}
use Rattle.caf_index.specs.Index.{Entries, has_entry, HasEntry}
use Rattle.caf_index.specs.PlainIndex.{StandsInFile, with_words, with_files, plain_index_of}
use Rattle.caf_index.proofs.EntryLemmas.{same_number, is_listed, number_from, has-empty, has-with_words}
use Rattle.caf_index.proofs.OccurrenceLemmas.{stands_from_listed, listed_from_stands, number_itself, and_true, or_left, or_right, left_true, right_true}

-- the word is listed with that line in the file of that number, where the first has the number n
record IsInFiles (files : List (List ℕ)) (n : ℕ) (word : List ℕ) (file line : ℕ) : Type 0 where
  place : ℕ
  bytes : List ℕ
  number : file ≡ n + place
  is_file : slice_get files place ≡ Some bytes
  listed : IsTrue (is_listed word line (words_of bytes))

either : (a b : Bool) → IsTrue (a || b) → IsTrue a ⊎ IsTrue b
either true b h = inl refl
either false b h = inr h

next_file : (bytes : List ℕ) (files : List (List ℕ)) (n : ℕ) (word : List ℕ) (file line : ℕ) → IsInFiles files (n + 1) word file line → IsInFiles (bytes ∷ files) n word file line
next_file bytes files n word file line r = record {
  place = suc r.place;
  bytes = r.bytes;
  number = (let e : file ≡ n + suc r.place = omega (arith, r.number) in e);
  is_file = r.is_file;
  listed = r.listed;
}

this_file : (bytes : List ℕ) (files : List (List ℕ)) (n : ℕ) (word : List ℕ) (file line : ℕ) → IsTrue (same_number file n && is_listed word line (words_of bytes)) → IsInFiles (bytes ∷ files) n word file line
this_file bytes files n word file line h =
    let same : file ≡ n = number_from file n (left_true _ _ h) in
    record { place = 0; bytes = bytes; number = (let e : file ≡ n + 0 = omega (arith, same) in e); is_file = refl; listed = right_true _ _ h }

from_files : (index : Entries) (n : ℕ) (files : List (List ℕ)) (word : List ℕ) (file line : ℕ) → IsTrue (has_entry (with_files index n files) word file line) → IsTrue (has_entry index word file line) ⊎ IsInFiles files n word file line
from_files index n [] word file line h = inl h
from_files index n (bytes ∷ files) word file line h =
    elim (from_files (with_words index n (words_of bytes)) (n + 1) files word file line h) [
      | inl g ↦ elim (either (same_number file n && is_listed word line (words_of bytes)) (has_entry index word file line) (sym (has-with_words index n (words_of bytes) word file line) ∙ g)) [
        | inl k ↦ inr (this_file bytes files n word file line k)
        | inr k ↦ inl k
      ]
      | inr r ↦ inr (next_file bytes files n word file line r)
    ]

kept_in : (index : Entries) (n : ℕ) (files : List (List ℕ)) (word : List ℕ) (file line : ℕ) → IsTrue (has_entry index word file line) → IsTrue (has_entry (with_files index n files) word file line)
kept_in index n [] word file line h = h
kept_in index n (bytes ∷ files) word file line h =
    kept_in (with_words index n (words_of bytes)) (n + 1) files word file line (has-with_words index n (words_of bytes) word file line ∙ or_right _ _ h)

same_some : (a b : List ℕ) → Some a ≡ Some b → a ≡ b
same_some a b e = ap (λ o. unwrap_or o a) e

in_files : (index : Entries) (n : ℕ) (files : List (List ℕ)) (word : List ℕ) (file line place : ℕ) (bytes : List ℕ) → file ≡ n + place → slice_get files place ≡ Some bytes → IsTrue (is_listed word line (words_of bytes)) → IsTrue (has_entry (with_files index n files) word file line)
in_files index n [] word file line place bytes number is_file listed = cc
in_files index n (b ∷ files) word file line zero bytes number is_file listed =
    let same : file ≡ n = omega (arith, number) in
    kept_in (with_words index n (words_of b)) (n + 1) files word file line
    (has-with_words index n (words_of b) word file line
    ∙ or_left _ _ (and_true _ _ (subst (λ k. IsTrue (same_number file k)) same (number_itself file)) (subst (λ bs. IsTrue (is_listed word line (words_of bs))) (sym (same_some b bytes is_file)) listed)))
in_files index n (b ∷ files) word file line (suc place) bytes number is_file listed =
    in_files (with_words index n (words_of b)) (n + 1) files word file line place bytes (let e : file ≡ n + 1 + place = omega (arith, number) in e) is_file listed

-- the entries of the plain index are those that stand in the files
pub stands_from_entry : (files : List (List ℕ)) (word : List ℕ) (file line : ℕ) → HasEntry (plain_index_of files) word file line → StandsInFile files word file line
stands_from_entry files word file line h =
    elim (from_files finite.empty 1 files word file line h) [
      | inl g ↦ (let none : has_entry finite.empty word file line ≡ false = has-empty word file line in absurd (clash _ g none))
      | inr r ↦
          let before : file - 1 ≡ r.place = omega (arith, r.number) in
          record {
            from_one = omega (arith, r.number);
            bytes = r.bytes;
            is_file = ap (slice_get files) before ∙ r.is_file;
            stands = stands_from_listed false 1 r.bytes word line r.listed;
          }
    ]
  where
    clash : (b : Bool) → b ≡ true → b ≡ false → ⊥
    clash true e f = cc
    clash false e f = cc

pub entry_from_stands : (files : List (List ℕ)) (word : List ℕ) (file line : ℕ) → StandsInFile files word file line → HasEntry (plain_index_of files) word file line
entry_from_stands files word file line s =
    let number : file ≡ 1 + (file - 1) = omega (arith, s.from_one) in
    in_files finite.empty 1 files word file line (file - 1) s.bytes number s.is_file (listed_from_stands false 1 s.bytes word line s.stands)

-- all files are read
pub all_read : (index whole : Entries) (n : ℕ) (files : List (List ℕ)) (read : ℕ) → length files ≤ read → with_files index n (drop read files) ≡ whole → index ≡ whole
all_read index whole n files read past is = ap (with_files index n) (sym (none_left files read past)) ∙ is
  where
    none_left : (files : List (List ℕ)) (read : ℕ) → length files ≤ read → drop read files ≡ []
    none_left [] zero past = refl
    none_left [] (suc read) past = refl
    none_left (f ∷ files) zero past = absurd (omega arith)
    none_left (f ∷ files) (suc read) past = none_left files read (omega arith)
