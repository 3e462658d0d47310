-- Each chunk of a file is whole lines.
use Rattle.std.proofs.Common.{◌≡◌, ℕ, zero, suc, ◌+◌, ◌-◌, ◌<◌, List, [], ◌∷◌, ◌++◌, length, get_or, take, drop, inl, inr, refl, sym, ap, subst, ◌∙◌, arith, append_assoc, append-nil}
use Rattle.std.specs.Prelude.{count_by, All, cond, ◌⊎◌}
use Rattle.std.specs.List.{AllByRecursion}
use Rattle.std.proofs.lemmas.List.{take-append-drop, length-append}
use Rattle.std.proofs.Math.Seq.{take-append_seam}
use Rattle.std.proofs.lemmas.List.Sums.{sum_by-cons, sum_by-append}
use Rattle.caf_index.specs.Words.{is_line_end}
use Rattle.caf_index.specs.Chunks.{lines_of, size_of, lines_after, chunks_within, chunks_of, IsWholeLines}
use Rattle.caf_index.proofs.ChunkLawLemmas.{joined, joined-none, joined-cons, joined-append, joined-lines, size-joined, IsLine, AreLines, are-lines}

-- lines before a further one all have their ends
all-lines : (xs : List (List ℕ)) (r : List ℕ) (rs : List (List ℕ)) → AreLines (xs ++ r ∷ rs) → AllByRecursion IsLine xs
all-lines [] r rs h = tt
all-lines (x ∷ []) r rs h = (h.0, tt)
all-lines (x ∷ y ∷ xs) r rs h = (h.0, all-lines (y ∷ xs) r rs h.1)

count-lines : (xs : List (List ℕ)) → AllByRecursion IsLine xs → count_by is_line_end (joined xs) ≡ length xs
count-lines [] h = ap (count_by is_line_end) joined-none
count-lines (x ∷ xs) h =
    let split : count_by is_line_end (x ++ joined xs) ≡ count_by is_line_end x + count_by is_line_end (joined xs) = sum_by-append (λ byte. cond (is_line_end byte) 1 0) x (joined xs) in
    let rest : count_by is_line_end (joined xs) ≡ length xs = count-lines xs h.1 in
    ap (count_by is_line_end) (joined-cons x xs) ∙ (let all : count_by is_line_end (x ++ joined xs) ≡ suc (length xs) = omega (arith, split, rest, h.0.count) in all)

-- bytes that a line end ends
record EndsLine (bs : List ℕ) : Type 0 where
  front : List ℕ
  is : bs ≡ front ++ 10 ∷ []

ends-joined : (xs : List (List ℕ)) → AllByRecursion IsLine xs → 0 < length xs → EndsLine (joined xs)
ends-joined [] h some = absurd (omega arith)
ends-joined (x ∷ []) h some = record { front = h.0.front; is = joined-cons x [] ∙ ap (λ bs. x ++ bs) joined-none ∙ append-nil x ∙ h.0.is }
ends-joined (x ∷ y ∷ xs) h some =
    let rest = ends-joined (y ∷ xs) h.1 (omega arith) in
    record { front = x ++ rest.front; is = joined-cons x (y ∷ xs) ∙ ap (λ bs. x ++ bs) rest.is ∙ sym (append_assoc x rest.front (10 ∷ [])) }

at-end : (front tail : List ℕ) → get_or ((front ++ 10 ∷ []) ++ tail) (length front) 0 ≡ 10
at-end [] tail = refl
at-end (b ∷ front) tail = at-end front tail

-- the byte before an offset behind lines
byte-before : (bytes : List ℕ) (xs ys : List (List ℕ)) (at : ℕ) → bytes ≡ joined (xs ++ ys) → at ≡ length (joined xs) → AllByRecursion IsLine xs → 0 < length xs → get_or bytes (at - 1) 0 ≡ 10
byte-before bytes xs ys at is place h some =
    let ends = ends-joined xs h some in
    let long : length (joined xs) ≡ length (ends.front ++ 10 ∷ []) = ap length ends.is in
    let split : length (ends.front ++ 10 ∷ []) ≡ length ends.front + length {A = ℕ} (10 ∷ []) = length-append ends.front (10 ∷ []) in
    let before : at - 1 ≡ length ends.front = omega (arith, place, long, split) in
    ap (λ bs. get_or bs (at - 1) 0) (is ∙ joined-append xs ys ∙ ap (λ bs. bs ++ joined ys) ends.is)
    ∙ ap (λ n. get_or ((ends.front ++ 10 ∷ []) ++ joined ys) n 0) before
    ∙ at-end ends.front (joined ys)

length-parts : (bytes : List ℕ) (xs ys : List (List ℕ)) → bytes ≡ joined (xs ++ ys) → length bytes ≡ length (joined xs) + length (joined ys)
length-parts bytes xs ys is = ap length (is ∙ joined-append xs ys) ∙ length-append (joined xs) (joined ys)

-- where lines begin, and where they end
begins-at : (bytes : List ℕ) (done : List (List ℕ)) (l : List ℕ) (ls : List (List ℕ)) (from : ℕ) → bytes ≡ joined (done ++ l ∷ ls) → AreLines (done ++ l ∷ ls) → from ≡ length (joined done) → (from ≡ 0) ⊎ (get_or bytes (from - 1) 0 ≡ 10)
begins-at bytes [] l ls from is h place = inl (place ∙ ap length joined-none)
begins-at bytes (d ∷ done) l ls from is h place = inr (byte-before bytes (d ∷ done) (l ∷ ls) from is place (all-lines (d ∷ done) l ls h) (omega arith))

ends-at : (bytes : List ℕ) (xs ys : List (List ℕ)) (to : ℕ) → bytes ≡ joined (xs ++ ys) → AreLines (xs ++ ys) → to ≡ length (joined xs) → 0 < length xs → (to ≡ length bytes) ⊎ (get_or bytes (to - 1) 0 ≡ 10)
ends-at bytes xs [] to is h place some =
    let long : length bytes ≡ length (joined xs) + length (joined []) = length-parts bytes xs [] is in
    let none : length (joined []) ≡ 0 = ap length joined-none in
    inl (omega (arith, long, none, place))
ends-at bytes xs (y ∷ ys) to is h place some = inr (byte-before bytes xs (y ∷ ys) to is place (all-lines xs y ys h) some)

line-some : (done : List (List ℕ)) (l : List ℕ) (ls : List (List ℕ)) → AreLines (done ++ l ∷ ls) → 0 < length l
line-some [] l [] h = h
line-some [] l (k ∷ ls) h = h.0.some
line-some (d ∷ []) l ls h = line-some [] l ls h.1
line-some (d ∷ e ∷ done) l ls h = line-some (e ∷ done) l ls h.1

whole-chunk : (bytes : List ℕ) (done : List (List ℕ)) (l : List ℕ) (ls : List (List ℕ)) (number from n : ℕ) → bytes ≡ joined (done ++ l ∷ ls) → AreLines (done ++ l ∷ ls) → from ≡ length (joined done) → number ≡ 1 + length done
    → IsWholeLines bytes (record { line = number; from = from; to = from + length l + size_of (take n ls) })
whole-chunk bytes done l ls number from n is h place counted =
    let to = from + length l + size_of (take n ls) in
    let xs = done ++ l ∷ take n ls in
    let same : xs ++ drop n ls ≡ done ++ l ∷ ls = append_assoc done (l ∷ take n ls) (drop n ls) ∙ ap (λ ks. done ++ l ∷ ks) (take-append-drop n ls) in
    let is_xs : bytes ≡ joined (xs ++ drop n ls) = is ∙ ap joined (sym same) in
    let lines_xs : AreLines (xs ++ drop n ls) = subst AreLines (sym same) h in
    let some : 0 < length l = line-some done l ls h in
    let long : length (joined xs) ≡ length (joined done) + length (joined (l ∷ take n ls)) = ap length (joined-append done (l ∷ take n ls)) ∙ length-append (joined done) (joined (l ∷ take n ls)) in
    let size : length (joined (l ∷ take n ls)) ≡ size_of (l ∷ take n ls) = size-joined (l ∷ take n ls) in
    let split : size_of (l ∷ take n ls) ≡ length l + size_of (take n ls) = sum_by-cons length l (take n ls) in
    let place_to : to ≡ length (joined xs) = omega (arith, long, size, split, place) in
    let whole : length bytes ≡ length (joined xs) + length (joined (drop n ls)) = length-parts bytes xs (drop n ls) is_xs in
    let many : length xs ≡ length done + length (l ∷ take n ls) = length-append done (l ∷ take n ls) in
    let before : take from bytes ≡ joined done = ap (λ bs. take from bs) (is ∙ joined-append done (l ∷ ls)) ∙ ap (λ k. take k (joined done ++ joined (l ∷ ls))) place ∙ take-append_seam (joined done) (joined (l ∷ ls)) in
    let ends : count_by is_line_end (take from bytes) ≡ length done = ap (count_by is_line_end) before ∙ count-lines done (all-lines done l ls h) in
    record {
      some = omega (arith, some);
      within = omega (arith, whole, place_to);
      begins = begins-at bytes done l ls from is h place;
      number = omega (arith, counted, ends);
      ends = ends-at bytes xs (drop n ls) to is_xs lines_xs place_to (omega (arith, many));
    }

pub all-cons : {X : Type 0} (P : X → Type 0) (x : X) (xs : List X) → P x → All P xs → All P (x ∷ xs)
all-cons P x xs h all zero d lt = h
all-cons P x xs h all (suc k) d lt = all k d (omega arith)

behind : (done : List (List ℕ)) (l : List ℕ) (from : ℕ) → from ≡ length (joined done) → from + length l ≡ length (joined (done ++ l ∷ []))
behind done l from place =
    let long : length (joined (done ++ l ∷ [])) ≡ length (joined done) + length (joined (l ∷ [])) = ap length (joined-append done (l ∷ [])) ∙ length-append (joined done) (joined (l ∷ [])) in
    let one : length (joined (l ∷ [])) ≡ length l = ap length (joined-cons l [] ∙ ap (λ bs. l ++ bs) joined-none ∙ append-nil l) in
    omega (arith, long, one, place)

count-next : (done : List (List ℕ)) (l : List ℕ) (number : ℕ) → number ≡ 1 + length done → number + 1 ≡ 1 + length (done ++ l ∷ [])
count-next done l number counted =
    let many : length (done ++ l ∷ []) ≡ length done + length (l ∷ []) = length-append done (l ∷ []) in
    omega (arith, many, counted)

whole-within : (bytes : List ℕ) (inside number from : ℕ) (done ls : List (List ℕ)) → bytes ≡ joined (done ++ ls) → AreLines (done ++ ls) → from ≡ length (joined done) → number ≡ 1 + length done → All (IsWholeLines bytes) (chunks_within inside number from ls)
whole-within bytes inside number from done [] is h place counted = λ k d lt. absurd (omega arith)
whole-within bytes (suc inside) number from done (l ∷ ls) is h place counted =
    let same : (done ++ l ∷ []) ++ ls ≡ done ++ l ∷ ls = append_assoc done (l ∷ []) ls in
    whole-within bytes inside (number + 1) (from + length l) (done ++ l ∷ []) ls (is ∙ ap joined (sym same)) (subst AreLines (sym same) h) (behind done l from place) (count-next done l number counted)
whole-within bytes zero number from done (l ∷ ls) is h place counted =
    let same : (done ++ l ∷ []) ++ ls ≡ done ++ l ∷ ls = append_assoc done (l ∷ []) ls in
    let n = lines_after (length l) ls in
    all-cons (IsWholeLines bytes) (record { line = number; from = from; to = from + length l + size_of (take n ls) }) (chunks_within n (number + 1) (from + length l) ls)
    (whole-chunk bytes done l ls number from n is h place counted)
    (whole-within bytes n (number + 1) (from + length l) (done ++ l ∷ []) ls (is ∙ ap joined (sym same)) (subst AreLines (sym same) h) (behind done l from place) (count-next done l number counted))

pub chunks-whole : (bytes : List ℕ) → All (IsWholeLines bytes) (chunks_of bytes)
chunks-whole bytes = whole-within bytes 0 1 0 [] (lines_of bytes) (sym (joined-lines bytes)) (are-lines bytes) (sym (ap length joined-none)) refl
