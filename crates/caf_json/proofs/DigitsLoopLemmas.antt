-- Reading pairs of hexadecimal digits one after the other.
use Rattle.std.proofs.Common.{◌≡◌, ℕ, ◌<◌, ◌≤◌, List, [], ◌∷◌, ◌++◌, length, drop, get_or, Option, Some, None, refl, sym, ap, ◌∙◌, append_assoc, arith}
use Rattle.caf_text.specs.TextReading.{digit_value, pair_value}
use Rattle.caf_json.specs.Digits.{in_front, unhex}

-- bytes that were read before
abbrev pub behind : List ℕ → Option (List ℕ) → Option (List ℕ)
behind front None = None
behind front (Some bs) = Some (front ++ bs)

pub behind_more : (front : List ℕ) (b : ℕ) (rest : Option (List ℕ)) → behind (front ++ b ∷ []) rest ≡ behind front (in_front (Some b) rest)
behind_more front b None = refl
behind_more front b (Some bs) = ap (λ (xs : List ℕ). Some xs) (append_assoc front (b ∷ []) bs)

pub first_pair : (digits : List ℕ) → 2 ≤ length digits
    → unhex digits ≡ in_front (pair_value (digit_value (get_or digits 0 0)) (digit_value (get_or digits 1 0))) (unhex (drop 2 digits))
first_pair [] h = absurd (omega arith)
first_pair (c ∷ []) h = absurd (omega arith)
first_pair (c ∷ d ∷ rest) h = refl

pub one_more : (front digits : List ℕ) (b : ℕ) (whole : Option (List ℕ)) → 2 ≤ length digits → pair_value (digit_value (get_or digits 0 0)) (digit_value (get_or digits 1 0)) ≡ Some b
    → behind front (unhex digits) ≡ whole → behind (front ++ b ∷ []) (unhex (drop 2 digits)) ≡ whole
one_more front digits b whole h is e = behind_more front b (unhex (drop 2 digits)) ∙ ap (λ o. behind front (in_front o (unhex (drop 2 digits)))) (sym is) ∙ ap (behind front) (sym (first_pair digits h)) ∙ e

pub no_pair : (front digits : List ℕ) (whole : Option (List ℕ)) → 2 ≤ length digits → pair_value (digit_value (get_or digits 0 0)) (digit_value (get_or digits 1 0)) ≡ None
    → behind front (unhex digits) ≡ whole → whole ≡ None
no_pair front digits whole h is e = sym e ∙ ap (behind front) (first_pair digits h) ∙ ap (λ o. behind front (in_front o (unhex (drop 2 digits)))) is

pub half_left : (front digits : List ℕ) (whole : Option (List ℕ)) → length digits < 2 → 0 < length digits → behind front (unhex digits) ≡ whole → whole ≡ None
half_left front [] whole h g e = absurd (omega arith)
half_left front (c ∷ []) whole h g e = sym e
half_left front (c ∷ d ∷ rest) whole h g e = absurd (omega arith)
