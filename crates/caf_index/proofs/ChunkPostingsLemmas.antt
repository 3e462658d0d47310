-- The postings of the chunks of a file are where its words stand.
use Rattle.std.proofs.Common.{◌≡◌, ℕ, ◌+◌, ◌-◌, ◌^◌, min, ◌<◌, ◌≤◌, Bool, true, false, List, ◌++◌, length, refl, sym, ap, subst, ◌∙◌, arith}
use Rattle.std.specs.Prelude.{◌↔◌, ◌&&◌, Contains, count_by}
use Rattle.std.specs.Ordering.{is_eq, eq_by_cmp}
use Rattle.std.specs.declared.cmp.Ordering.{Ordering}
use Rattle.std.specs.declared.cmp.Ordering.TheVariants.{Less, Equal, Greater}
use Rattle.std.specs.Cmp.{IsEquivalence, nat_cmp_total}
use Rattle.std.specs.Cmp.Lexicographic.{nat_list_cmp_total}
use Rattle.std.proofs.lemmas.Cmp.{on_equiv, and_equiv, eq_by_cmp_equiv}
use Rattle.std.proofs.lemmas.Map.Views.{list_any-from_Contains, Contains-from_any}
use Rattle.std.proofs.lemmas.List.{length-append}
use Rattle.std.proofs.lemmas.List.Sums.{count_by-le-length}
use Rattle.caf_index.specs.Words.{is_line_end, StandsWithin, StandsIn, words_within}
use Rattle.caf_index.specs.Chunks.{chunks_of, chunk_bytes}
use Rattle.caf_index.specs.declared.chunk.Chunk.{Chunk}
use Rattle.caf_index.specs.Postings.{posting_at, stopped, words_from, posting_cmp, postings_of, IsPostingOf, IsInAChunk}
use Rattle.caf_index.specs.declared.posting.Posting.{Posting}
use Rattle.caf_index.proofs.EntryLemmas.{same_number, same_word, number_from, word_from}
use Rattle.caf_index.proofs.OccurrenceLemmas.{stands_from_listed, listed_from_stands, left_true, right_true}
use Rattle.caf_index.proofs.PostingLemmas.{postings-total, postings-apart}
use Rattle.caf_index.proofs.SortedOnceLemmas.{any-once}
use Rattle.caf_index.proofs.ContainsLemmas.{contains-map, from-map, contains-flat, from-flat}
use Rattle.caf_index.proofs.ChunkLawLemmas.{chunks-keep}

tied : (r : Ordering) → is_eq r ≡ true → r ≡ Equal
tied Less e = cc
tied Equal e = refl
tied Greater e = cc

-- ---- the postings of bytes are their words, each with its line

pub postings-from : (line : ℕ) (bytes : List ℕ) (posting : Posting) → Contains (words_from line bytes) posting → Contains (postings_of line bytes) posting
postings-from line bytes posting has =
    Contains-from_any {eq = eq_by_cmp posting_cmp} (λ p q e. postings-apart p q (tied (posting_cmp p q) e)) posting (postings_of line bytes)
    (any-once posting_cmp postings-total posting (words_from line bytes) ∙ list_any-from_Contains (eq_by_cmp_equiv postings-total) posting (words_from line bytes) has)

pub words-from : (line : ℕ) (bytes : List ℕ) (posting : Posting) → Contains (postings_of line bytes) posting → Contains (words_from line bytes) posting
words-from line bytes posting has =
    Contains-from_any {eq = eq_by_cmp posting_cmp} (λ p q e. postings-apart p q (tied (posting_cmp p q) e)) posting (words_from line bytes)
    (sym (any-once posting_cmp postings-total posting (words_from line bytes)) ∙ list_any-from_Contains (eq_by_cmp_equiv postings-total) posting (postings_of line bytes) has)

-- ---- the words of a file are what stands in it

same_pair : List ℕ × ℕ → List ℕ × ℕ → Bool
same_pair a b = same_word a.0 b.0 && same_number a.1 b.1

pairs-apart : (a b : List ℕ × ℕ) → same_pair a b ≡ true → a ≡ b
unfolding same_pair
pairs-apart a b e = ap (λ w. (w, a.1)) (word_from a.0 b.0 (left_true _ _ e)) ∙ ap (λ n. (b.0, n)) (number_from a.1 b.1 (right_true _ _ e))

pairs-equiv : IsEquivalence same_pair
unfolding same_pair
pairs-equiv = and_equiv (on_equiv (λ (p : List ℕ × ℕ). p.0) (eq_by_cmp_equiv nat_list_cmp_total)) (on_equiv (λ (p : List ℕ × ℕ). p.1) (eq_by_cmp_equiv nat_cmp_total))

stands-from : (first : ℕ) (bytes word : List ℕ) (line : ℕ) → Contains (words_within false first bytes) (word, line) → StandsWithin false first bytes word line
unfolding same_pair
stands-from first bytes word line has = stands_from_listed false first bytes word line (list_any-from_Contains pairs-equiv (word, line) (words_within false first bytes) has)

from-stands : (first : ℕ) (bytes word : List ℕ) (line : ℕ) → StandsWithin false first bytes word line → Contains (words_within false first bytes) (word, line)
unfolding same_pair
from-stands first bytes word line stands = Contains-from_any {eq = same_pair} pairs-apart (word, line) (words_within false first bytes) (listed_from_stands false first bytes word line stands)

-- the postings of bytes are exactly those of the words that stand in them
pub postings-exact : (first : ℕ) (bytes : List ℕ) (posting : Posting) → Contains (postings_of first bytes) posting ↔ IsPostingOf first bytes posting
postings-exact first bytes posting = (
  (λ has.
      let read = from-map stopped posting (words_within false first bytes) (words-from first bytes posting has) in
      record {
        line = read.0.1;
        stands = subst (λ w. StandsWithin false first bytes w read.0.1) (ap (λ (p : Posting). p.word) read.2) (stands-from first bytes read.0.0 read.0.1 read.1);
        stopped = sym (ap (λ (p : Posting). p.line) read.2);
      }),
  (λ is. postings-from first bytes posting
      (subst (λ n. Contains (words_from first bytes) (posting_at posting.word n)) (sym is.stopped)
      (contains-map stopped (posting.word, is.line) (words_within false first bytes) (from-stands first bytes posting.word is.line is.stands)))),
)

-- a word stands in no line past the number of bytes
line-small : (bytes word : List ℕ) (line : ℕ) → StandsIn bytes word line → line ≤ length bytes
line-small bytes word line s =
    let whole : length bytes ≡ length (s.before ++ (s.run ++ s.after)) = ap length s.parts in
    let first : length (s.before ++ (s.run ++ s.after)) ≡ length s.before + length (s.run ++ s.after) = length-append s.before (s.run ++ s.after) in
    let second : length (s.run ++ s.after) ≡ length s.run + length s.after = length-append s.run s.after in
    let ends : count_by is_line_end s.before ≤ length s.before = count_by-le-length is_line_end s.before in
    omega (arith, whole, first, second, ends, s.has_bytes, s.is_line)

-- ---- both

abbrev words_in : List ℕ → Chunk → List (List ℕ × ℕ)
words_in bytes chunk = words_within false chunk.line (chunk_bytes bytes chunk)

stands-in : (bytes word : List ℕ) (line : ℕ) → length bytes < 2 ^ 64 → IsInAChunk bytes (posting_at word line) → StandsIn bytes word line
stands-in bytes word line small is =
    let read = from-map stopped (posting_at word line) (words_in bytes is.chunk) (words-from is.chunk.line (chunk_bytes bytes is.chunk) (posting_at word line) is.listed) in
    let here = contains-flat (words_in bytes) is.chunk read.0 (chunks_of bytes) is.is_chunk read.1 in
    let stands = stands-from 1 bytes read.0.0 read.0.1 (subst (λ ws. Contains ws read.0) (chunks-keep bytes) here) in
    let fits : read.0.1 ≤ length bytes = line-small bytes read.0.0 read.0.1 stands in
    let stops : min read.0.1 (2 ^ 64 - 1) ≡ line = ap (λ (p : Posting). p.line) read.2 in
    let same : read.0.1 ≡ line = omega (arith, fits, small, stops) in
    subst (λ n. StandsIn bytes word n) same (subst (λ w. StandsIn bytes w read.0.1) (ap (λ (p : Posting). p.word) read.2) stands)

in-a-chunk : (bytes word : List ℕ) (line : ℕ) → length bytes < 2 ^ 64 → StandsIn bytes word line → IsInAChunk bytes (posting_at word line)
in-a-chunk bytes word line small stands =
    let fits : line ≤ length bytes = line-small bytes word line stands in
    let stops : min line (2 ^ 64 - 1) ≡ line = omega (arith, fits, small) in
    let found = from-flat (words_in bytes) (word, line) (chunks_of bytes) (subst (λ ws. Contains ws (word, line)) (sym (chunks-keep bytes)) (from-stands 1 bytes word line stands)) in
    record {
      chunk = found.0;
      is_chunk = found.1;
      listed = postings-from found.0.line (chunk_bytes bytes found.0) (posting_at word line)
          (subst (λ n. Contains (words_from found.0.line (chunk_bytes bytes found.0)) (posting_at word n)) stops (contains-map stopped (word, line) (words_in bytes found.0) found.2));
    }

pub chunk-postings : (bytes word : List ℕ) (line : ℕ) → length bytes < 2 ^ 64 → IsInAChunk bytes (posting_at word line) ↔ StandsIn bytes word line
chunk-postings bytes word line small = (stands-in bytes word line small, in-a-chunk bytes word line small)
