-- Where a text stands in an input in UTF-8, and how it was escaped, leaves it in UTF-8.
use Rattle.std.proofs.Common.{◌≡◌, ℕ, zero, suc, ◌+◌, ◌<◌, ◌≤◌, ◌||◌, eqb, ne_eqb, eqb-true, nat_lt, ltb-true, ltb-false, Bool, true, false, List, [], ◌∷◌, ◌++◌, length, length-append, take, drop, get_or, slice_index, flat_map, IsUtf8, IsCharBoundary, true≢false, ◌/◌, ◌%◌, refl, sym, ap, subst, ◌∙◌, append_assoc, arith}
use Rattle.std.proofs.lemmas.Str.{IsUtf8-append, IsUtf8-from_ascii, IsUtf8-take, IsUtf8-drop, IsUtf8-nil, IsCharBoundary-after_ascii}
use Rattle.std.proofs.lemmas.Bool.Decides.{nat_tests}
use Rattle.hex.specs.Hex.{lower_digits}
use Rattle.caf_text.specs.TextForm.{escape, is_escaped}
use Rattle.caf_text.proofs.DigitLemmas.{sixteen}
use Rattle.caf_text.proofs.StopLemmas.{heads}

-- ---- parts of a list

drop_front : (xs ys : List ℕ) → drop (length xs) (xs ++ ys) ≡ ys
drop_front [] ys = refl
drop_front (x ∷ xs) ys = drop_front xs ys

take_front : (xs ys : List ℕ) → take (length xs) (xs ++ ys) ≡ xs
take_front [] ys = refl
take_front (x ∷ xs) ys = ap (λ zs. x ∷ zs) (take_front xs ys)

at_front : (xs : List ℕ) (c : ℕ) (ys : List ℕ) → get_or (xs ++ c ∷ ys) (length xs) 0 ≡ c
at_front [] c ys = refl
at_front (x ∷ xs) c ys = at_front xs c ys

-- ---- parts of a text

-- ASCII stands first, or nothing
abbrev pub AsciiFirst : List ℕ → Type 0
AsciiFirst xs = (c : ℕ) (r : List ℕ) → xs ≡ c ∷ r → c < 128

seam : (xs ys : List ℕ) → AsciiFirst ys → IsCharBoundary (xs ++ ys) (length xs)
seam xs [] h = let l : length (xs ++ []) ≡ length xs + 0 = length-append xs [] in (omega arith, λ lt high. absurd (omega arith))
seam xs (c ∷ ys) h =
    let l : length (xs ++ c ∷ ys) ≡ length xs + (length ys + 1) = length-append xs (c ∷ ys) ∙ (let e : length xs + length (c ∷ ys) ≡ length xs + (length ys + 1) = omega arith in e) in
    let low : c < 128 = h c ys refl in
    (omega arith, λ lt high. let e : slice_index (xs ++ c ∷ ys) (length xs) ≡ c = at_front xs c ys in absurd (omega arith))

pub front_valid : (xs ys : List ℕ) → AsciiFirst ys → IsUtf8 (xs ++ ys) → IsUtf8 xs
front_valid xs ys h u = subst IsUtf8 (take_front xs ys) (IsUtf8-take (xs ++ ys) (length xs) u (seam xs ys h))

pub back_valid : (xs ys : List ℕ) → AsciiFirst ys → IsUtf8 (xs ++ ys) → IsUtf8 ys
back_valid xs ys h u = subst IsUtf8 (drop_front xs ys) (IsUtf8-drop (xs ++ ys) (length xs) u (seam xs ys h))

pub after_ascii : (xs : List ℕ) (c : ℕ) (ys : List ℕ) → c < 128 → IsUtf8 (xs ++ c ∷ ys) → IsUtf8 ys
after_ascii xs c ys low u =
    let e : get_or (xs ++ c ∷ ys) (length xs) 0 ≡ c = at_front xs c ys in
    let l : length (xs ++ c ∷ ys) ≡ length xs + (length ys + 1) = length-append xs (c ∷ ys) ∙ (let e : length xs + length (c ∷ ys) ≡ length xs + (length ys + 1) = omega arith in e) in
    let b = IsCharBoundary-after_ascii (xs ++ c ∷ ys) (length xs) u (omega arith) (omega arith) in
    subst IsUtf8 (dropped xs) (IsUtf8-drop (xs ++ c ∷ ys) (length xs + 1) u b)
  where
    dropped : (zs : List ℕ) → drop (length zs + 1) (zs ++ c ∷ ys) ≡ ys
    dropped [] = refl
    dropped (z ∷ zs) = let e : length (z ∷ zs) + 1 ≡ suc (length zs + 1) = omega arith in rw e (dropped zs)

abbrev pub AllLow : List ℕ → Type 0
AllLow [] = Unit {0}
AllLow (c ∷ cs) = (c < 128) × AllLow cs

low_back : (xs ys : List ℕ) → AllLow xs → IsUtf8 (xs ++ ys) → IsUtf8 ys
low_back [] ys h u = u
low_back (c ∷ xs) ys h u = low_back xs ys h.1 (after_ascii [] c (xs ++ ys) h.0 u)

one_ascii : (c : ℕ) → c < 128 → (i : ℕ) → slice_index (c ∷ []) i < 128
one_ascii c h zero = h
one_ascii c h (suc i) = omega arith

pub low_valid : (c : ℕ) → c < 128 → IsUtf8 (c ∷ [])
low_valid c h = IsUtf8-from_ascii (c ∷ []) (one_ascii c h)

-- ---- escapes

digit_low : (n : ℕ) → n < 16 → slice_index lower_digits n < 128
digit_low = sixteen (λ n. slice_index lower_digits n < 128) (omega arith) (omega arith) (omega arith) (omega arith) (omega arith) (omega arith) (omega arith) (omega arith) (omega arith) (omega arith) (omega arith) (omega arith) (omega arith) (omega arith) (omega arith) (omega arith)

pub plain_escape : (c : ℕ) → eqb c 34 ≡ false → eqb c 92 ≡ false → nat_lt c 32 ≡ false → eqb c 127 ≡ false → escape c ≡ c ∷ []
plain_escape c a b l d =
    let h : 32 ≤ c = ltb-false _ _ l in
    let ten : eqb c 10 ≡ false = ne_eqb c 10 (λ e. absurd (omega arith)) in
    rw (a, b, ten, l, d) refl

high_escape : (c : ℕ) → 128 ≤ c → escape c ≡ c ∷ []
high_escape c h =
    plain_escape c (ne_eqb c 34 (λ e. absurd (omega arith))) (ne_eqb c 92 (λ e. absurd (omega arith))) (lt_no c 32 (omega arith)) (ne_eqb c 127 (λ e. absurd (omega arith)))
  where
    lt_no : (n m : ℕ) → m ≤ n → nat_lt n m ≡ false
    lt_no n m h = grind (arith, nat_tests)

pub escaped_is : (b : ℕ) → is_escaped b ≡ true → escape b ≡ 92 ∷ 120 ∷ slice_index lower_digits (b / 16) ∷ slice_index lower_digits (b % 16) ∷ []
escaped_is b h = go (eqb b 10) refl (nat_lt b 32) refl (eqb b 127) refl
  where
    go : (t : Bool) → eqb b 10 ≡ t → (l : Bool) → nat_lt b 32 ≡ l → (d : Bool) → eqb b 127 ≡ d → escape b ≡ 92 ∷ 120 ∷ slice_index lower_digits (b / 16) ∷ slice_index lower_digits (b % 16) ∷ []
    go true q l e d f = absurd (true≢false (sym (rw q at h)))
    go false q true e d f =
        let lt : b < 32 = ltb-true _ _ e in
        let a : eqb b 34 ≡ false = ne_eqb b 34 (λ e. absurd (omega arith)) in
        let c : eqb b 92 ≡ false = ne_eqb b 92 (λ e. absurd (omega arith)) in
        rw (a, c, q, e) refl
    go false q false e true f = subst (λ x. escape x ≡ 92 ∷ 120 ∷ slice_index lower_digits (x / 16) ∷ slice_index lower_digits (x % 16) ∷ []) (sym (eqb-true _ _ f)) refl
    go false q false e false f = absurd (true≢false (sym (rw (q, e, f) at h)))

abbrev Low : List ℕ → Type 0
Low xs = (x : ℕ) × (rest : List ℕ) × (xs ≡ x ∷ rest) × AllLow (x ∷ rest)

low_escape : (b : ℕ) → b < 128 → Low (escape b)
low_escape b h = go (eqb b 34 || eqb b 92) refl (eqb b 10) refl (is_escaped b) refl
  where
    go : (s : Bool) → (eqb b 34 || eqb b 92) ≡ s → (t : Bool) → eqb b 10 ≡ t → (e : Bool) → is_escaped b ≡ e → Low (escape b)
    go true q t r e f = (92, b ∷ [], rw q refl, (omega arith, (h, tt)))
    go false q true r e f = (92, 110 ∷ [], rw (q, r) refl, (omega arith, (omega arith, tt)))
    go false q false r true f =
        let x : b / 16 < 16 = omega arith in
        let y : b % 16 < 16 = omega arith in
        (92, 120 ∷ slice_index lower_digits (b / 16) ∷ slice_index lower_digits (b % 16) ∷ [], escaped_is b f, (omega arith, (omega arith, (digit_low (b / 16) x, (digit_low (b % 16) y, tt)))))
    go false q false r false f = let g : (nat_lt b 32 || eqb b 127) ≡ false = rw r at f in (b, [], rw (q, r, g) refl, (h, tt))

starts_low : (b : ℕ) (ys : List ℕ) → b < 128 → AsciiFirst (escape b ++ ys)
starts_low b ys h c r e = let l = low_escape b h in subst (λ z. z < 128) (heads (ap (λ xs. xs ++ ys) (sym l.2) ∙ e)) l.3.0

behind_low : (b : ℕ) (ys : List ℕ) → b < 128 → IsUtf8 (escape b ++ ys) → IsUtf8 ys
behind_low b ys h u = let l = low_escape b h in low_back (l.0 ∷ l.1) ys l.3 (subst (λ xs. IsUtf8 (xs ++ ys)) l.2 u)

-- what was escaped to a text in UTF-8 is in UTF-8
pub unescaped : (hs bs : List ℕ) → IsUtf8 (hs ++ flat_map escape bs) → IsUtf8 (hs ++ bs)
unescaped hs [] u = u
unescaped hs (b ∷ bs) u = go (nat_lt b 128) refl (λ gs v. unescaped gs bs v)
  where
    go : (t : Bool) → nat_lt b 128 ≡ t → ((gs : List ℕ) → IsUtf8 (gs ++ flat_map escape bs) → IsUtf8 (gs ++ bs)) → IsUtf8 (hs ++ b ∷ bs)
    go true q k =
        let low : b < 128 = ltb-true _ _ q in
        let first = starts_low b (flat_map escape bs) low in
        IsUtf8-append hs (b ∷ bs) (front_valid hs (escape b ++ flat_map escape bs) first u)
        (IsUtf8-append (b ∷ []) bs (low_valid b low) (k [] (behind_low b (flat_map escape bs) low (back_valid hs (escape b ++ flat_map escape bs) first u))))
    go false q k =
        let high : 128 ≤ b = ltb-false _ _ q in
        subst IsUtf8 (append_assoc hs (b ∷ []) bs)
        (k (hs ++ b ∷ []) (subst IsUtf8 (ap (λ xs. hs ++ (xs ++ flat_map escape bs)) (high_escape b high) ∙ sym (append_assoc hs (b ∷ []) (flat_map escape bs))) u))

-- and the other way round
all_low : (xs : List ℕ) → AllLow xs → IsUtf8 xs
all_low [] h = IsUtf8-nil
all_low (x ∷ xs) h = IsUtf8-append (x ∷ []) xs (low_valid x h.0) (all_low xs h.1)

pub escaped_valid : (hs bs : List ℕ) → IsUtf8 (hs ++ bs) → IsUtf8 (hs ++ flat_map escape bs)
escaped_valid hs [] u = u
escaped_valid hs (b ∷ bs) u = go (nat_lt b 128) refl (λ gs v. escaped_valid gs bs v)
  where
    go : (t : Bool) → nat_lt b 128 ≡ t → ((gs : List ℕ) → IsUtf8 (gs ++ bs) → IsUtf8 (gs ++ flat_map escape bs)) → IsUtf8 (hs ++ flat_map escape (b ∷ bs))
    go true q k =
        let low : b < 128 = ltb-true _ _ q in
        let l = low_escape b low in
        let first : AsciiFirst (b ∷ bs) = λ c r e. subst (λ z. z < 128) (heads e) low in
        IsUtf8-append hs (escape b ++ flat_map escape bs) (front_valid hs (b ∷ bs) first u)
        (IsUtf8-append (escape b) (flat_map escape bs) (subst IsUtf8 (sym l.2) (all_low (l.0 ∷ l.1) l.3)) (k [] (after_ascii hs b bs low u)))
    go false q k =
        let high : 128 ≤ b = ltb-false _ _ q in
        subst IsUtf8 (append_assoc hs (b ∷ []) (flat_map escape bs) ∙ sym (ap (λ xs. hs ++ (xs ++ flat_map escape bs)) (high_escape b high)))
        (k (hs ++ b ∷ []) (subst IsUtf8 (sym (append_assoc hs (b ∷ []) bs)) u))
