-- The places of chunks lead to the chunks of all files.
use Rattle.std.proofs.Common.{◌≡◌, ℕ, zero, suc, ◌+◌, ◌-◌, ◌^◌, ◌<◌, ◌≤◌, List, [], ◌∷◌, ◌++◌, length, get_or, drop, map, refl, sym, ap, subst, ◌∙◌, arith, append_assoc, Some}
use Rattle.std.specs.Prelude.{slice_get, All, nat_lt, Bool, true, false}
use Rattle.std.specs.List.{AllByRecursion}
use Rattle.std.proofs.lemmas.List.{map-append, length-append, get_or_default}
use Rattle.std.proofs.lemmas.Bool.{ltb-true}
use Rattle.std.proofs.lemmas.Bool.Decides.{nat_tests}
use Rattle.std.proofs.Math.Seq.{drop-cons}
use Rattle.caf_words.specs.Datum.{are_bytes}
use Rattle.caf_words.specs.Spelling.{packed, words_for}
use Rattle.caf_words.proofs.PackingLemmas.{length-packed}
use Rattle.caf_index.specs.Chunks.{chunks_of, IsWholeLines, IsLongest}
use Rattle.caf_index.specs.declared.chunk.Chunk.{Chunk as Span}
use Rattle.caf_index.proofs.WholeLinesLemmas.{chunks-whole}
use Rattle.caf_index.proofs.LongestChunkLemmas.{chunks-longest}
use Rattle.caf_kinds.specs.FileChunks.{chunk_at, chunks_numbered, chunks_from, all_chunks, file_at, chunk_in, IsPlaceIn, places_numbered, places_from, IsChunk, AreChunks, AreByteLists}
use Rattle.caf_kinds.specs.Pipeline.{chunk_content}
use Rattle.caf_kinds.specs.Starting.{has_short_lines}
use Rattle.caf_kinds.specs.declared.file_chunks.ChunkPlace.{ChunkPlace}
use Rattle.caf_kinds.specs.declared.contents.Chunk.{Chunk}
use Rattle.caf_kinds.proofs.ShortLineLemmas.{IsFile, is_chunk}

-- ---- lists

-- what stands first behind some items
pub record StandsAt {A : Type 0} (xs : List A) (n : ℕ) (x : A) (ys : List A) : Type 0 where
  pub item : slice_get xs n ≡ Some x
  pub rest : drop (suc n) xs ≡ ys
  pub within : n < length xs

pub stands_at : {A : Type 0} (xs : List A) (n : ℕ) (x : A) (ys : List A) → drop n xs ≡ x ∷ ys → StandsAt xs n x ys
stands_at [] zero x ys e = absurd cc
stands_at [] (suc n) x ys e = absurd cc
stands_at (y ∷ xs) zero x ys e = record { item = let here : y ≡ x = cc in rw here refl; rest = cc; within = omega arith }
stands_at (y ∷ xs) (suc n) x ys e = let there = stands_at xs n x ys e in record { item = there.item; rest = there.rest; within = omega (arith, there.within) }

by_recursion : {A : Type 0} (P : A → Type 0) (xs : List A) → All P xs → AllByRecursion P xs
by_recursion P [] all = tt
by_recursion P (x ∷ xs) all = (all zero x (omega arith), by_recursion P xs (λ k d lt. all (suc k) d (omega arith)))

all_append : {A : Type 0} (P : A → Type 0) (xs ys : List A) → AllByRecursion P xs → AllByRecursion P ys → AllByRecursion P (xs ++ ys)
all_append P [] ys all rest = rest
all_append P (x ∷ xs) ys all rest = (all.0, all_append P xs ys all.1 rest)

-- ---- the chunks at the places

file_is : (files : List (List ℕ)) (before : ℕ) (bytes : List ℕ) (others : List (List ℕ)) → StandsAt files before bytes others → file_at files (before + 1) ≡ bytes
file_is files before bytes others stands =
    let here : before + 1 - 1 ≡ before = omega arith in
    rw (here, stands.item) refl

numbered_chunks : (files : List (List ℕ)) (file : ℕ) (bytes : List ℕ) → file_at files file ≡ bytes → (number : ℕ) (spans : List Span) → map (chunk_in files) (places_numbered file number spans) ≡ chunks_numbered file number bytes spans
numbered_chunks files file bytes is number [] = refl
numbered_chunks files file bytes is number (span ∷ spans) =
    ap (λ bs. chunk_at file number bs span ∷ map (chunk_in files) (places_numbered file (number + 1) spans)) is
    ∙ ap (λ cs. chunk_at file number bytes span ∷ cs) (numbered_chunks files file bytes is (number + 1) spans)

chunks_there : (all : List (List ℕ)) (before : ℕ) (files : List (List ℕ)) → drop before all ≡ files → (number : ℕ) → map (chunk_in all) (places_from (before + 1) number files) ≡ chunks_from (before + 1) number files
chunks_there all before [] e number = refl
chunks_there all before (bytes ∷ files) e number =
    let stands = stands_at all before bytes files e in
    let next : drop (before + 1) all ≡ files = subst (λ (n : ℕ). drop n all ≡ files) (let same : suc before ≡ before + 1 = omega arith in same) stands.rest in
    map-append (chunk_in all) (places_numbered (before + 1) number (chunks_of bytes)) (places_from (before + 1 + 1) (number + length (chunks_of bytes)) files)
    ∙ ap (λ cs. cs ++ map (chunk_in all) (places_from (before + 1 + 1) (number + length (chunks_of bytes)) files)) (numbered_chunks all (before + 1) bytes (file_is all before bytes files stands) number (chunks_of bytes))
    ∙ ap (λ cs. chunks_numbered (before + 1) number bytes (chunks_of bytes) ++ cs) (chunks_there all (before + 1) files next (number + length (chunks_of bytes)))

-- the places of all files lead to all chunks
pub all_chunks_there : (files : List (List ℕ)) → map (chunk_in files) (places_from 1 0 files) ≡ all_chunks files
all_chunks_there files = chunks_there files 0 files refl 0

-- ---- the places are in the files

numbered_length : (file number : ℕ) (spans : List Span) → length (places_numbered file number spans) ≡ length spans
numbered_length file number [] = refl
numbered_length file number (span ∷ spans) = ap suc (numbered_length file (number + 1) spans)

-- the file of that number
record IsFileAt (files : List (List ℕ)) (file : ℕ) (bytes : List ℕ) : Type 0 where
  from_one : 0 < file
  within : file - 1 < length files
  fits : file < 2 ^ 64
  same : file_at files file ≡ bytes
  is : IsFile bytes

numbered_in : (files : List (List ℕ)) (file : ℕ) (bytes : List ℕ) → IsFileAt files file bytes → (number : ℕ) (spans : List Span) → number + length spans < 2 ^ 64
    → AllByRecursion (IsWholeLines bytes) spans → AllByRecursion (IsLongest bytes) spans → AllByRecursion (IsPlaceIn files) (places_numbered file number spans)
numbered_in files file bytes at number [] fits whole longest = tt
numbered_in files file bytes at number (span ∷ spans) fits whole longest =
    let first = whole.0 in (
      record {
        from_one = at.from_one;
        is_file = at.within;
        begins = omega (arith, first.some);
        ends = rw at.same first.within;
        chunk = rw at.same (is_chunk bytes span file number at.is first longest.0 at.fits (omega arith));
      },
      numbered_in files file bytes at (number + 1) spans (omega arith) whole.1 longest.1,
    )

places_there : (all : List (List ℕ)) (before : ℕ) (files : List (List ℕ)) → drop before all ≡ files → length all < 2 ^ 64 → AllByRecursion IsFile files
    → (number : ℕ) → number + length (places_from (before + 1) number files) < 2 ^ 64 → AllByRecursion (IsPlaceIn all) (places_from (before + 1) number files)
places_there all before [] e few are number fits = tt
places_there all before (bytes ∷ files) e few are number fits =
    let stands = stands_at all before bytes files e in
    let next : drop (before + 1) all ≡ files = subst (λ (n : ℕ). drop n all ≡ files) (let same : suc before ≡ before + 1 = omega arith in same) stands.rest in
    let long = length-append (places_numbered (before + 1) number (chunks_of bytes)) (places_from (before + 1 + 1) (number + length (chunks_of bytes)) files) in
    let here = numbered_length (before + 1) number (chunks_of bytes) in
    let at : IsFileAt all (before + 1) bytes = record {
      from_one = omega arith;
      within = omega (arith, stands.within);
      fits = omega (arith, stands.within, few);
      same = file_is all before bytes files stands;
      is = are.0;
    } in
    all_append (IsPlaceIn all) (places_numbered (before + 1) number (chunks_of bytes)) (places_from (before + 1 + 1) (number + length (chunks_of bytes)) files)
    (numbered_in all (before + 1) bytes at number (chunks_of bytes) (omega (arith, fits, long, here)) (by_recursion (IsWholeLines bytes) (chunks_of bytes) (chunks-whole bytes)) (by_recursion (IsLongest bytes) (chunks_of bytes) (chunks-longest bytes)))
    (places_there all (before + 1) files next few are.1 (number + length (chunks_of bytes)) (omega (arith, fits, long, here)))

pub all_places_in : (files : List (List ℕ)) → length files < 2 ^ 64 → AllByRecursion IsFile files → length (places_from 1 0 files) < 2 ^ 64 → AllByRecursion (IsPlaceIn files) (places_from 1 0 files)
all_places_in files few are fits = places_there files 0 files refl few are 0 (omega (arith, fits))

-- ---- the chunks are chunks

pub places_are_chunks : (files : List (List ℕ)) (places : List ChunkPlace) → AllByRecursion (IsPlaceIn files) places → AreChunks (map (chunk_in files) places)
places_are_chunks files [] all = tt
places_are_chunks files (p ∷ places) all = (all.0.chunk, places_are_chunks files places all.1)

-- one of them
pub place_in : (files : List (List ℕ)) (places : List ChunkPlace) (i : ℕ) (d : ChunkPlace) → i < length places → AllByRecursion (IsPlaceIn files) places → IsPlaceIn files (get_or places i d)
place_in files [] i d lt all = absurd (omega arith)
place_in files (p ∷ places) zero d lt all = all.0
place_in files (p ∷ places) (suc i) d lt all = place_in files places i d (omega arith) all.1

pub chunk_place : (files : List (List ℕ)) (places : List ChunkPlace) (i : ℕ) (d : ChunkPlace) (c : Chunk) → i < length places → get_or (map (chunk_in files) places) i c ≡ chunk_in files (get_or places i d)
chunk_place files [] i d c lt = absurd (omega arith)
chunk_place files (p ∷ places) zero d c lt = refl
chunk_place files (p ∷ places) (suc i) d c lt = chunk_place files places i d c (omega arith)

-- ---- the loops

-- files whose bytes are bytes, one more
pub bytes_more : (files : List (List ℕ)) (i : ℕ) (bytes : List ℕ) → i < length files → bytes ≡ get_or files i bytes → are_bytes bytes ≡ true
    → ((k : ℕ) (d : List ℕ) → k < i → are_bytes (get_or files k d) ≡ true) → (k : ℕ) (d : List ℕ) → k < i + 1 → are_bytes (get_or files k d) ≡ true
bytes_more files i bytes lt is here before k d below = go (nat_lt k i) refl
  where
    go : (t : Bool) → nat_lt k i ≡ t → are_bytes (get_or files k d) ≡ true
    go true e = before k d (ltb-true k i e)
    go false e =
        let same : k ≡ i = grind (arith, nat_tests) in
        let item : get_or files i d ≡ bytes = get_or_default files i d bytes lt ∙ sym is in
        rw (same, item) here

-- the places of one file more
pub places_more : (files : List (List ℕ)) (before : ℕ) (bytes : List ℕ) (places new : List ChunkPlace) → before < length files → bytes ≡ get_or files before bytes
    → places ++ places_from (before + 1) (length places) (drop before files) ≡ places_from 1 0 files
    → new ≡ places ++ places_numbered (before + 1) (length places) (chunks_of bytes)
    → new ++ places_from (before + 1 + 1) (length new) (drop (before + 1) files) ≡ places_from 1 0 files
places_more files before bytes places new lt is all more =
    let next : suc before ≡ before + 1 = omega arith in
    let front : drop before files ≡ bytes ∷ drop (before + 1) files = drop-cons files before bytes lt ∙ ap (λ (b : List ℕ). b ∷ drop (suc before) files) (sym is) ∙ ap (λ (n : ℕ). bytes ∷ drop n files) next in
    let here = places_numbered (before + 1) (length places) (chunks_of bytes) in
    let long : length new ≡ length places + length (chunks_of bytes) = ap length more ∙ length-append places here ∙ ap (λ (n : ℕ). length places + n) (numbered_length (before + 1) (length places) (chunks_of bytes)) in
    ap (λ (n : ℕ). new ++ places_from (before + 1 + 1) n (drop (before + 1) files)) long
    ∙ ap (λ (ps : List ChunkPlace). ps ++ places_from (before + 1 + 1) (length places + length (chunks_of bytes)) (drop (before + 1) files)) more
    ∙ append_assoc places here (places_from (before + 1 + 1) (length places + length (chunks_of bytes)) (drop (before + 1) files))
    ∙ ap (λ (fs : List (List ℕ)). places ++ places_from (before + 1) (length places) fs) (sym front)
    ∙ all

-- the files that the program has
pub are_files : (files : List (List ℕ)) → AreByteLists files → AllByRecursion (λ (bytes : List ℕ). has_short_lines 0 bytes ≡ true) files → AllByRecursion IsFile files
are_files [] bytes short = tt
are_files (f ∷ files) bytes short = (record { are_bytes = bytes zero f (omega arith); short = short.0 }, are_files files (λ k d lt. bytes (suc k) d (omega arith)) short.1)

-- ---- the message of a chunk

chunk_of : (cs : List Chunk) (i : ℕ) (d : Chunk) → i < length cs → AreChunks cs → IsChunk (get_or cs i d)
chunk_of [] i d lt all = absurd (omega arith)
chunk_of (c ∷ cs) zero d lt all = all.0
chunk_of (c ∷ cs) (suc i) d lt all = chunk_of cs i d (omega arith) all.1

pub is_one_of : (cs : List Chunk) (i : ℕ) (chunk : Chunk) → i < length cs → AreChunks cs → ((d : Chunk) → chunk ≡ get_or cs i d) → IsChunk chunk
is_one_of cs i chunk lt all is = subst IsChunk (sym (is chunk)) (chunk_of cs i chunk lt all)

pub is_small : (c : Chunk) → IsChunk c → length (chunk_content c) ≤ 4194304
is_small c is =
    let bytes = packed c.bytes in
    omega (arith, length-append (bytes ++ []) [], length-append bytes [], length-packed (words_for (length c.bytes)) c.bytes, is.short)
