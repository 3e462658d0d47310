-- Bytes as lower-case hexadecimal digits, two per byte.
use Rattle.std.specs.Prelude.{ℕ, List, [], ◌∷◌, Option, Some, None}
use Rattle.caf_text.specs.TextReading.{digit_value, pair_value}

abbrev pub in_front : Option ℕ → Option (List ℕ) → Option (List ℕ)
in_front None rest = None
in_front (Some b) None = None
in_front (Some b) (Some bs) = Some (b ∷ bs)

-- the bytes of pairs of digits
abbrev pub unhex : List ℕ → Option (List ℕ)
unhex [] = Some []
unhex (c ∷ []) = None
unhex (high ∷ low ∷ rest) = in_front (pair_value (digit_value high) (digit_value low)) (unhex rest)
