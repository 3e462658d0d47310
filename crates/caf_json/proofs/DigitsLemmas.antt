-- Bytes are written as pairs of hexadecimal digits, and read back.
use Rattle.std.proofs.Common.{◌≡◌, ℕ, ◌+◌, ◌*◌, ◌/◌, ◌%◌, ◌<◌, List, [], ◌∷◌, slice_index, Option, Some, None, refl, sym, ap, subst, ◌∙◌, arith}
use Rattle.hex.specs.Hex.{lower_digits, encode_lower, encode_with}
use Rattle.caf_words.specs.Spelling.{AreBytes}
use Rattle.caf_text.specs.TextReading.{digit_value, pair_value}
use Rattle.caf_text.proofs.DigitLemmas.{digit_back, digit_is, pair_is}
use Rattle.caf_json.specs.Digits.{in_front, unhex}

pub unhex_back : (bs : List ℕ) → AreBytes bs → unhex (encode_lower bs) ≡ Some bs
unfolding encode_with
unhex_back [] h = refl
unhex_back (b ∷ bs) h =
    let lt : b < 256 = h.0 in
    let high : b / 16 < 16 = omega arith in
    let low : b % 16 < 16 = omega arith in
    let whole : b / 16 * 16 + b % 16 ≡ b = omega arith in
    rw (digit_back (b / 16) high, digit_back (b % 16) low, unhex_back bs h.1) (ap (λ n. Some (n ∷ bs)) whole)

front_is : (o : Option ℕ) (p : Option (List ℕ)) (bs : List ℕ) → in_front o p ≡ Some bs → (b : ℕ) × (rest : List ℕ) × (o ≡ Some b) × (p ≡ Some rest) × (bs ≡ b ∷ rest)
front_is (Some b) (Some rest) bs e = (b, rest, refl, refl, cc)
front_is (Some b) None bs e = absurd cc
front_is None p bs e = absurd cc

pub unhex_is : (digits bs : List ℕ) → unhex digits ≡ Some bs → AreBytes bs × (digits ≡ encode_lower bs)
unfolding encode_with
unhex_is [] bs e = let is : [] ≡ bs = cc in subst (λ (xs : List ℕ). AreBytes xs × ([] ≡ encode_lower xs)) is (tt, refl)
unhex_is (c ∷ []) bs e = absurd cc
unhex_is (c ∷ d ∷ digits) bs e =
    let f = front_is (pair_value (digit_value c) (digit_value d)) (unhex digits) bs e in
    let p = pair_is (digit_value c) (digit_value d) f.0 f.2 in
    let x = digit_is c p.0 p.2 in
    let y = digit_is d p.1 p.3 in
    let rest = unhex_is digits f.1 f.3 in
    let xl : p.0 < 16 = x.0 in
    let yl : p.1 < 16 = y.0 in
    let whole : p.0 * 16 + p.1 ≡ f.0 = p.4 in
    let lt : f.0 < 256 = omega arith in
    let high : p.0 ≡ f.0 / 16 = omega arith in
    let low : p.1 ≡ f.0 % 16 = omega arith in
    let cs : c ≡ slice_index lower_digits (f.0 / 16) = x.1 ∙ ap (slice_index lower_digits) high in
    let ds : d ≡ slice_index lower_digits (f.0 % 16) = y.1 ∙ ap (slice_index lower_digits) low in
    subst (λ (xs : List ℕ). AreBytes xs × ((c ∷ d ∷ digits) ≡ encode_lower xs)) (sym f.4)
    ((lt, rest.0), ap (λ (z : ℕ). z ∷ d ∷ digits) cs ∙ ap (λ (z : ℕ). slice_index lower_digits (f.0 / 16) ∷ z ∷ digits) ds ∙ ap (λ (zs : List ℕ). slice_index lower_digits (f.0 / 16) ∷ slice_index lower_digits (f.0 % 16) ∷ zs) rest.1)
