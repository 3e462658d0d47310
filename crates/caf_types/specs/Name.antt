-- Which texts are names: 1 to 64 bytes of `a` to `z`, `0` to `9` and `_`.
use Rattle.std.specs.Prelude.{ℕ, Bool, ◌&&◌, ◌||◌, ◌==◌, nat_le, List, length}
use Rattle.std.specs.List.{list_all}
use Rattle.caf_types.specs.declared.limits.TheConstants.{LONGEST_NAME}

abbrev pub is_name_byte : ℕ → Bool
is_name_byte b = (nat_le 97 b && nat_le b 122) || (nat_le 48 b && nat_le b 57) || (b == 95)

abbrev pub is_name : List ℕ → Bool
is_name bs = (nat_le 1 (length bs) && nat_le (length bs) LONGEST_NAME) && list_all is_name_byte bs
