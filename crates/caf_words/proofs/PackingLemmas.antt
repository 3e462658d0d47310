-- Bytes packed into words are read again, and what is read is packed so.
use Rattle.std.proofs.Common.{◌≡◌, ℕ, zero, suc, ◌+◌, ◌*◌, ◌^◌, ◌<◌, ◌≤◌, Bool, true, false, cond, eqb, ltb, List, [], ◌∷◌, ◌++◌, length, get_or, take, drop, Fits, Result, Ok, Err, refl, sym, ap, subst, ◌∙◌, arith}
use Rattle.std.specs.Int.{w64, from_le_bytes, to_le_bytes}
use Rattle.std.proofs.lemmas.Bool.{le-ltb, ltb-false}
use Rattle.std.proofs.lemmas.List.{take_at, drop_at, take-append-drop, length-append, length-take, length-drop, get_or-drop}
use Rattle.std.proofs.lemmas.Nat.{le_bytes_8, from_le_bytes-to_le_bytes_8}
use Rattle.caf_words.specs.Spelling.{words_for, packed_in, packed, AreBytes}
use Rattle.caf_words.specs.Reading.{bytes_in, are_zeros, unpacked}

abbrev pub AreWords : List ℕ → Type 0
AreWords [] = Unit {0}
AreWords (w ∷ ws) = (w < 2 ^ 64) × AreWords ws

at_byte : (bs : List ℕ) → AreBytes bs → (i : ℕ) → get_or bs i 0 < 256
at_byte [] h i = omega arith
at_byte (b ∷ bs) h zero = h.0
at_byte (b ∷ bs) h (suc i) = at_byte bs h.1 i

bytes_append : (xs ys : List ℕ) → AreBytes xs → AreBytes ys → AreBytes (xs ++ ys)
bytes_append [] ys h k = k
bytes_append (x ∷ xs) ys h k = (h.0, bytes_append xs ys h.1 k)

pub bytes_take : (n : ℕ) (bs : List ℕ) → AreBytes bs → AreBytes (take n bs)
bytes_take zero bs h = tt
bytes_take (suc n) [] h = tt
bytes_take (suc n) (b ∷ bs) h = (h.0, bytes_take n bs h.1)

abbrev zeros : List ℕ
zeros = 0 ∷ 0 ∷ 0 ∷ 0 ∷ 0 ∷ 0 ∷ 0 ∷ 0 ∷ []

are_bytes_zeros : AreBytes zeros
are_bytes_zeros = (omega arith, (omega arith, (omega arith, (omega arith, (omega arith, (omega arith, (omega arith, (omega arith, tt))))))))

-- eight bytes, the last ones zero where there are fewer
abbrev cells : List ℕ → List ℕ
cells bs = take 8 (bs ++ zeros)

one_cell : (bs : List ℕ) → AreBytes bs → length (cells bs) ≡ 8 → from_le_bytes w64 bs ≡ from_le_bytes w64 (cells bs) → to_le_bytes w64 (from_le_bytes w64 bs) ≡ cells bs
one_cell bs h len same = le_bytes_8 (cells bs) (from_le_bytes w64 bs) len (at_byte (cells bs) (bytes_take 8 (bs ++ zeros) (bytes_append bs zeros h are_bytes_zeros))) same

pub zeros_in : (n : ℕ) → are_zeros (bytes_in (packed_in n [])) ≡ true
zeros_in zero = refl
zeros_in (suc n) = zeros_in n

abbrev Fills : List ℕ → List ℕ → Type 0
Fills bs xs = (take (length bs) xs ≡ bs) × (are_zeros (drop (length bs) xs) ≡ true)

short : (n : ℕ) (bs : List ℕ) → AreBytes bs → length (cells bs) ≡ 8 → from_le_bytes w64 bs ≡ from_le_bytes w64 (cells bs)
    → Fills bs (cells bs ++ bytes_in (packed_in n [])) → Fills bs (to_le_bytes w64 (from_le_bytes w64 bs) ++ bytes_in (packed_in n []))
short n bs h len same f = subst (λ xs. Fills bs (xs ++ bytes_in (packed_in n []))) (sym (one_cell bs h len same)) f

fills : (n : ℕ) (bs : List ℕ) → length bs ≤ 8 * n → AreBytes bs → Fills bs (bytes_in (packed_in n bs))
fills zero [] le h = (refl, refl)
fills zero (b ∷ bs) le h = absurd (omega arith)
fills (suc n) [] le h = (refl, zeros_in n)
fills (suc n) (a ∷ []) le h = short n (a ∷ []) h refl refl (refl, zeros_in n)
fills (suc n) (a ∷ b ∷ []) le h = short n (a ∷ b ∷ []) h refl refl (refl, zeros_in n)
fills (suc n) (a ∷ b ∷ c ∷ []) le h = short n (a ∷ b ∷ c ∷ []) h refl refl (refl, zeros_in n)
fills (suc n) (a ∷ b ∷ c ∷ d ∷ []) le h = short n (a ∷ b ∷ c ∷ d ∷ []) h refl refl (refl, zeros_in n)
fills (suc n) (a ∷ b ∷ c ∷ d ∷ e ∷ []) le h = short n (a ∷ b ∷ c ∷ d ∷ e ∷ []) h refl refl (refl, zeros_in n)
fills (suc n) (a ∷ b ∷ c ∷ d ∷ e ∷ f ∷ []) le h = short n (a ∷ b ∷ c ∷ d ∷ e ∷ f ∷ []) h refl refl (refl, zeros_in n)
fills (suc n) (a ∷ b ∷ c ∷ d ∷ e ∷ f ∷ g ∷ []) le h = short n (a ∷ b ∷ c ∷ d ∷ e ∷ f ∷ g ∷ []) h refl refl (refl, zeros_in n)
fills (suc n) (a ∷ b ∷ c ∷ d ∷ e ∷ f ∷ g ∷ k ∷ bs) le h =
    let rest = fills n bs (omega arith) h.1.1.1.1.1.1.1.1 in
    let eight : AreBytes (a ∷ b ∷ c ∷ d ∷ e ∷ f ∷ g ∷ k ∷ []) = bytes_take 8 (a ∷ b ∷ c ∷ d ∷ e ∷ f ∷ g ∷ k ∷ bs) h in
    subst (λ xs. Fills (a ∷ b ∷ c ∷ d ∷ e ∷ f ∷ g ∷ k ∷ bs) (xs ++ bytes_in (packed_in n bs))) (sym (one_cell (a ∷ b ∷ c ∷ d ∷ e ∷ f ∷ g ∷ k ∷ []) eight refl refl))
    (ap (λ (xs : List ℕ). a ∷ b ∷ c ∷ d ∷ e ∷ f ∷ g ∷ k ∷ xs) rest.0, rest.1)

pub length-packed : (n : ℕ) (bs : List ℕ) → length (packed_in n bs) ≡ n
length-packed zero bs = refl
length-packed (suc n) bs = omega (arith, length-packed n (drop 8 bs))

pub unpack_again : (k : ℕ) (bs rest : List ℕ) → AreBytes bs → length bs ≤ 8 * k → unpacked (length bs) k (packed_in k bs ++ rest) ≡ Ok (bs, rest)
unpack_again k bs rest h le =
    let f = fills k bs le h in
    let len = length-packed k bs in
    let long : ltb (length (packed_in k bs ++ rest)) k ≡ false = le-ltb _ _ (omega (arith, length-append (packed_in k bs) rest)) in
    rw (long, take_at (packed_in k bs) rest k len, drop_at (packed_in k bs) rest k len, f.1, f.0) refl

-- ---- what is read is packed so

guard_zero : (x : ℕ) (r : Bool) → cond (eqb x 0) r false ≡ true → (x ≡ 0) × (r ≡ true)
guard_zero zero r e = (refl, e)
guard_zero (suc x) r e = grind arith

all_zero : (xs : List ℕ) (i : ℕ) → are_zeros xs ≡ true → get_or xs i 0 ≡ 0
all_zero [] i h = refl
all_zero (x ∷ xs) zero h = (guard_zero x (are_zeros xs) h).0
all_zero (x ∷ xs) (suc i) h = all_zero xs i (guard_zero x (are_zeros xs) h).1

zero_past : (n : ℕ) (xs : List ℕ) (i : ℕ) → are_zeros (drop n xs) ≡ true → get_or (take n xs) i 0 ≡ get_or xs i 0
zero_past zero xs i h = sym (all_zero xs i h)
zero_past (suc n) [] i h = refl
zero_past (suc n) (x ∷ xs) zero h = refl
zero_past (suc n) (x ∷ xs) (suc i) h = zero_past n xs i h

packed_same : (n : ℕ) (xs ys : List ℕ) → ((i : ℕ) → get_or xs i 0 ≡ get_or ys i 0) → packed_in n xs ≡ packed_in n ys
packed_same zero xs ys s = refl
packed_same (suc n) xs ys s =
    let word : from_le_bytes w64 xs ≡ from_le_bytes w64 ys = rw (s 0, s 1, s 2, s 3, s 4, s 5, s 6, s 7) refl in
    let others : packed_in n (drop 8 xs) ≡ packed_in n (drop 8 ys) = packed_same n (drop 8 xs) (drop 8 ys) (λ i. rw (get_or-drop 8 xs i 0, get_or-drop 8 ys i 0) (s (8 + i))) in
    ap (λ w. w ∷ packed_in n (drop 8 xs)) word ∙ ap (λ (ws : List ℕ). from_le_bytes w64 ys ∷ ws) others

packed_back : (vs : List ℕ) → AreWords vs → packed_in (length vs) (bytes_in vs) ≡ vs
packed_back [] h = refl
packed_back (v ∷ vs) h =
    ap (λ w. w ∷ packed_in (length vs) (bytes_in vs)) (from_le_bytes-to_le_bytes_8 v h.0) ∙ ap (λ (ws : List ℕ). v ∷ ws) (packed_back vs h.1)

pub length-bytes : (vs : List ℕ) → length (bytes_in vs) ≡ 8 * length vs
length-bytes [] = refl
length-bytes (v ∷ vs) = omega (arith, length-bytes vs)

eight_bytes : (v : ℕ) → AreBytes (to_le_bytes w64 v)
eight_bytes v = (omega arith, (omega arith, (omega arith, (omega arith, (omega arith, (omega arith, (omega arith, (omega arith, tt))))))))

bytes_of_words : (vs : List ℕ) → AreBytes (bytes_in vs)
bytes_of_words [] = tt
bytes_of_words (v ∷ vs) = bytes_append (to_le_bytes w64 v) (bytes_in vs) (eight_bytes v) (bytes_of_words vs)

pub words_take : (n : ℕ) (ws : List ℕ) → AreWords ws → AreWords (take n ws)
words_take zero ws h = tt
words_take (suc n) [] h = tt
words_take (suc n) (w ∷ ws) h = (h.0, words_take n ws h.1)

pub words_drop : (n : ℕ) (ws : List ℕ) → AreWords ws → AreWords (drop n ws)
words_drop zero ws h = h
words_drop (suc n) [] h = tt
words_drop (suc n) (w ∷ ws) h = words_drop n ws h.1

guard_not : {A : Type 0} (b : Bool) (e : ℕ) (r : Result A ℕ) (y : A) → cond b (Err e) r ≡ Ok y → (b ≡ false) × (r ≡ Ok y)
guard_not true e r y h = absurd cc
guard_not false e r y h = (refl, h)

guard_so : {A : Type 0} (b : Bool) (e : ℕ) (x y : A) → cond b (Ok x) (Err e) ≡ Ok y → (b ≡ true) × (x ≡ y)
guard_so true e x y h = (refl, cc)
guard_so false e x y h = absurd cc

pub record Unpacks (n k : ℕ) (ws bs rest : List ℕ) : Type 0 where
  pub len : length bs ≡ n
  pub bytes : AreBytes bs
  pub parts : ws ≡ packed_in k bs ++ rest
  pub rest_words : AreWords rest

pub unpack_sound : (n k : ℕ) (ws bs rest : List ℕ) → AreWords ws → n ≤ 8 * k → unpacked n k ws ≡ Ok (bs, rest) → Unpacks n k ws bs rest
unpack_sound n k ws bs rest h le e =
    let vs : List ℕ = take k ws in
    let g = guard_not (ltb (length ws) k) 0 (cond (are_zeros (drop n (bytes_in vs))) (Ok (take n (bytes_in vs), drop k ws)) (Err _)) (bs, rest) e in
    let f = guard_so (are_zeros (drop n (bytes_in vs))) _ (take n (bytes_in vs), drop k ws) (bs, rest) g.1 in
    let long : k ≤ length ws = ltb-false _ _ g.0 in
    let len : length vs ≡ k = omega (arith, length-take k ws) in
    let front : packed_in k (take n (bytes_in vs)) ≡ vs =
    packed_same k (take n (bytes_in vs)) (bytes_in vs) (λ i. zero_past n (bytes_in vs) i f.0) ∙ subst (λ m. packed_in m (bytes_in vs) ≡ vs) len (packed_back vs (words_take k ws h)) in
    subst (λ (x : List ℕ × List ℕ). Unpacks n k ws x.0 x.1) f.1 (record {
      len = omega (arith, length-take n (bytes_in vs), length-bytes vs);
      bytes = bytes_take n (bytes_in vs) (bytes_of_words vs);
      parts = sym (ap (λ (xs : List ℕ). xs ++ drop k ws) front ∙ take-append-drop k ws);
      rest_words = words_drop k ws h;
    })

pub packed_more : (bs : List ℕ) → (bs ≡ [] → ⊥) → packed bs ≡ from_le_bytes w64 bs ∷ packed (drop 8 bs)
packed_more [] h = absurd (h refl)
packed_more (b ∷ bs) h =
    let k : words_for (length (b ∷ bs)) ≡ suc (words_for (length (drop 8 (b ∷ bs)))) = omega (arith, length-drop 8 (b ∷ bs)) in
    rw k refl

-- the words of a slice
pub words_at : (ws : List ℕ) → ((i : ℕ) → Fits w64 (get_or ws i 0)) → AreWords ws
words_at [] h = tt
words_at (w ∷ ws) h = (let f = h 0 in omega arith, words_at ws (λ i. h (suc i)))
