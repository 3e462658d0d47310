-- Numbers as words.
use Rattle.std.specs.Prelude.{◌≡◌, ◌≤◌, ℕ, List, length}
use Rattle.std.specs.Str.Parse.{IsNumeral, digits_value}

-- the text is one to ten decimal digits, with or without leading zeros, which write n, and n is in the range
pub record IsNumberIn (least most : ℕ) (text : List ℕ) (n : ℕ) : Type 0 where
  pub digits : IsNumeral 10 text
  pub short : length text ≤ 10
  pub value : n ≡ digits_value 10 text
  pub above : least ≤ n
  pub below : n ≤ most
