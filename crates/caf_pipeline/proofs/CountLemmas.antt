-- The chunks of files have as many lines and bytes together as the files.
use Rattle.std.proofs.Common.{◌≡◌, ℕ, zero, suc, ◌+◌, Bool, true, false, List, [], ◌∷◌, ◌++◌, length, take, drop, refl, sym, ap, ◌∙◌, arith, append-nil}
use Rattle.std.specs.List.{sum_by}
use Rattle.std.proofs.lemmas.List.{length-append, take-append-drop}
use Rattle.std.proofs.lemmas.List.Sums.{sum_by-cons}
use Rattle.caf_index.specs.Chunks.{before_lines, lines_of, size_of, lines_after, chunks_within, chunks_of, chunk_bytes}
use Rattle.caf_index.specs.Words.{is_line_end}
use Rattle.caf_index.specs.declared.chunk.Chunk.{Chunk as Span}
use Rattle.caf_index.proofs.ChunkLawLemmas.{joined, joined-none, joined-cons, joined-lines, size-joined, behind-line, chunk-lines}
use Rattle.caf_kinds.specs.FileChunks.{chunks_numbered, chunks_from, all_chunks}
use Rattle.caf_kinds.specs.declared.contents.Chunk.{Chunk}

-- ---- sums

abbrev pub weigh_all : {A : Type 0} → (A → ℕ) → List A → ℕ
weigh_all f [] = 0
weigh_all f (x ∷ xs) = f x + weigh_all f xs

pub weigh_append : {A : Type 0} (f : A → ℕ) (xs ys : List A) → weigh_all f (xs ++ ys) ≡ weigh_all f xs + weigh_all f ys
weigh_append f [] ys = omega arith
weigh_append f (x ∷ xs) ys = let rest = weigh_append f xs ys in omega (arith, rest)

pub weigh_is : {A : Type 0} (f : A → ℕ) (xs : List A) → weigh_all f xs ≡ sum_by f xs
weigh_is f [] = refl
weigh_is f (x ∷ xs) = ap (λ n. f x + n) (weigh_is f xs) ∙ sym (sum_by-cons f x xs)

pub weigh_one : {A : Type 0} (xs : List A) → weigh_all (λ x. 1) xs ≡ length xs
weigh_one [] = refl
weigh_one (x ∷ xs) = let rest = weigh_one xs in omega (arith, rest)

-- ---- lines

-- whatever stands behind it, it is the first line
abbrev Splits : List ℕ → Type 0
Splits l = (bs : List ℕ) → lines_of (l ++ bs) ≡ l ∷ lines_of bs

-- each is a line, and ended but for the last
abbrev AreCut : List (List ℕ) → Type 0
AreCut [] = Unit {0}
AreCut (l ∷ []) = lines_of l ≡ l ∷ []
AreCut (l ∷ k ∷ ls) = Splits l × AreCut (k ∷ ls)

one_alone : (l : List ℕ) → Splits l → lines_of l ≡ l ∷ []
one_alone l splits = ap lines_of (sym (append-nil l)) ∙ splits []

cut_before : (l : List ℕ) (ls : List (List ℕ)) → Splits l → AreCut ls → AreCut (l ∷ ls)
cut_before l [] splits cut = one_alone l splits
cut_before l (k ∷ ls) splits cut = (splits, cut)

end_splits : (b : ℕ) → is_line_end b ≡ true → Splits (b ∷ [])
end_splits b e bs = rw e refl

longer_splits : (b : ℕ) (l : List ℕ) → is_line_end b ≡ false → Splits l → Splits (b ∷ l)
longer_splits b l e splits bs = rw e (ap (before_lines b) (splits bs))

longer_alone : (b : ℕ) (l : List ℕ) → is_line_end b ≡ false → lines_of l ≡ l ∷ [] → lines_of (b ∷ l) ≡ (b ∷ l) ∷ []
longer_alone b l e alone = rw e (ap (before_lines b) alone)

cut_longer : (b : ℕ) (ls : List (List ℕ)) → is_line_end b ≡ false → AreCut ls → AreCut (before_lines b ls)
cut_longer b [] e cut = rw e refl
cut_longer b (l ∷ []) e cut = longer_alone b l e cut
cut_longer b (l ∷ k ∷ ls) e cut = (longer_splits b l e cut.0, cut.1)

cut_lines : (bs : List ℕ) → AreCut (lines_of bs)
cut_lines [] = tt
cut_lines (b ∷ bs) = go (is_line_end b) refl (cut_lines bs)
  where
    go : (t : Bool) → is_line_end b ≡ t → AreCut (lines_of bs) → AreCut (lines_of (b ∷ bs))
    go true e cut = rw e (cut_before (b ∷ []) (lines_of bs) (end_splits b e) cut)
    go false e cut = rw e (cut_longer b (lines_of bs) e cut)

cut_rest : (l : List ℕ) (ls : List (List ℕ)) → AreCut (l ∷ ls) → AreCut ls
cut_rest l [] cut = tt
cut_rest l (k ∷ ls) cut = cut.1

cut_take : (n : ℕ) (l : List ℕ) (ls : List (List ℕ)) → AreCut (l ∷ ls) → AreCut (l ∷ take n ls)
cut_take zero l [] cut = cut
cut_take zero l (k ∷ ls) cut = one_alone l cut.0
cut_take (suc n) l [] cut = cut
cut_take (suc n) l (k ∷ ls) cut = (cut.0, cut_take n k ls cut.1)

cut_joined : (ls : List (List ℕ)) → AreCut ls → lines_of (joined ls) ≡ ls
cut_joined [] cut = ap lines_of joined-none
cut_joined (l ∷ []) cut = ap lines_of (joined-cons l [] ∙ ap (λ bs. l ++ bs) joined-none ∙ append-nil l) ∙ cut
cut_joined (l ∷ k ∷ ls) cut = ap lines_of (joined-cons l (k ∷ ls)) ∙ cut.0 (joined (k ∷ ls)) ∙ ap (λ ms. l ∷ ms) (cut_joined (k ∷ ls) cut.1)

drop_none : (n : ℕ) → drop {A = List ℕ} n [] ≡ []
drop_none zero = refl
drop_none (suc n) = refl

-- ---- the chunks of a file

module _ (bytes : List ℕ) where
  abbrev lines_in_chunk : Span → ℕ
  lines_in_chunk span = length (lines_of (chunk_bytes bytes span))

  abbrev bytes_in_chunk : Span → ℕ
  bytes_in_chunk span = length (chunk_bytes bytes span)

  lines_within : (inside number from : ℕ) (ls : List (List ℕ)) → drop from bytes ≡ joined ls → AreCut ls → weigh_all lines_in_chunk (chunks_within inside number from ls) ≡ length (drop inside ls)
  lines_within inside number from [] is cut = ap length (sym (drop_none inside))
  lines_within (suc inside) number from (l ∷ ls) is cut = lines_within inside (number + 1) (from + length l) ls (behind-line bytes l ls from is) (cut_rest l ls cut)
  lines_within zero number from (l ∷ ls) is cut =
      let n = lines_after (length l) ls in
      let here = ap (λ bs. length (lines_of bs)) (chunk-lines bytes l ls number from n is) ∙ ap length (cut_joined (l ∷ take n ls) (cut_take n l ls cut)) in
      let rest = lines_within n (number + 1) (from + length l) ls (behind-line bytes l ls from is) (cut_rest l ls cut) in
      let both = sym (length-append (take n ls) (drop n ls)) ∙ ap length (take-append-drop n ls) in
      omega (arith, here, rest, both)

  bytes_within : (inside number from : ℕ) (ls : List (List ℕ)) → drop from bytes ≡ joined ls → weigh_all bytes_in_chunk (chunks_within inside number from ls) ≡ size_of (drop inside ls)
  bytes_within inside number from [] is = ap size_of (sym (drop_none inside))
  bytes_within (suc inside) number from (l ∷ ls) is = bytes_within inside (number + 1) (from + length l) ls (behind-line bytes l ls from is)
  bytes_within zero number from (l ∷ ls) is =
      let n = lines_after (length l) ls in
      let here = ap length (chunk-lines bytes l ls number from n is) ∙ size-joined (l ∷ take n ls) ∙ sym (weigh_is length (l ∷ take n ls)) in
      let rest = bytes_within n (number + 1) (from + length l) ls (behind-line bytes l ls from is) ∙ sym (weigh_is length (drop n ls)) in
      let both = sym (weigh_append length (take n ls) (drop n ls)) ∙ ap (weigh_all length) (take-append-drop n ls) in
      let all = sym (weigh_is length (l ∷ ls)) in
      let sum : weigh_all bytes_in_chunk (chunks_within zero number from (l ∷ ls)) ≡ weigh_all length (l ∷ ls) = omega (arith, here, rest, both) in
      sum ∙ sym all

  pub lines_of_chunks : weigh_all lines_in_chunk (chunks_of bytes) ≡ length (lines_of bytes)
  lines_of_chunks = lines_within 0 1 0 (lines_of bytes) (sym (joined-lines bytes)) (cut_lines bytes)

  pub bytes_of_chunks : weigh_all bytes_in_chunk (chunks_of bytes) ≡ length bytes
  bytes_of_chunks = bytes_within 0 1 0 (lines_of bytes) (sym (joined-lines bytes)) ∙ sym (size-joined (lines_of bytes)) ∙ ap length (joined-lines bytes)

-- ---- the chunks of all files

module _ (f : List ℕ → ℕ) (adds : (bytes : List ℕ) → weigh_all (λ span. f (chunk_bytes bytes span)) (chunks_of bytes) ≡ f bytes) where
  numbered_weigh : (file number : ℕ) (bytes : List ℕ) (spans : List Span) → weigh_all (λ (c : Chunk). f c.bytes) (chunks_numbered file number bytes spans) ≡ weigh_all (λ span. f (chunk_bytes bytes span)) spans
  numbered_weigh file number bytes [] = refl
  numbered_weigh file number bytes (span ∷ spans) = ap (λ n. f (chunk_bytes bytes span) + n) (numbered_weigh file (number + 1) bytes spans)

  from_weigh : (file number : ℕ) (files : List (List ℕ)) → weigh_all (λ (c : Chunk). f c.bytes) (chunks_from file number files) ≡ weigh_all f files
  from_weigh file number [] = refl
  from_weigh file number (bytes ∷ files) =
      weigh_append (λ (c : Chunk). f c.bytes) (chunks_numbered file number bytes (chunks_of bytes)) (chunks_from (file + 1) (number + length (chunks_of bytes)) files)
      ∙ (let here = numbered_weigh file number bytes (chunks_of bytes) ∙ adds bytes in let rest = from_weigh (file + 1) (number + length (chunks_of bytes)) files in omega (arith, here, rest))

pub lines_of_all : (files : List (List ℕ)) → weigh_all (λ (c : Chunk). length (lines_of c.bytes)) (all_chunks files) ≡ sum_by (λ bytes. length (lines_of bytes)) files
lines_of_all files = from_weigh (λ bytes. length (lines_of bytes)) lines_of_chunks 1 0 files ∙ weigh_is (λ bytes. length (lines_of bytes)) files

pub bytes_of_all : (files : List (List ℕ)) → weigh_all (λ (c : Chunk). length c.bytes) (all_chunks files) ≡ sum_by length files
bytes_of_all files = from_weigh length bytes_of_chunks 1 0 files ∙ weigh_is length files
