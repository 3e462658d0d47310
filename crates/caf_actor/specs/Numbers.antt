-- For each receiver, the number of the next envelope to it.
use Rattle.std.specs.Prelude.{ℕ, ◌+◌, min, List, [], unwrap_or}
use Rattle.std.specs.Ordering.{nat_cmp}
use Rattle.std.specs.BTreeMap.{insert_entry, is_at}
use Rattle.std.specs.Map.{lookup}

-- the receivers to which something was sent, in rising order, each with its next number
abbrev pub Numbers : Type 0
Numbers = List (ℕ × ℕ)

abbrev pub no_numbers : Numbers
no_numbers = []

-- from 0 on
abbrev pub number_for : Numbers → ℕ → ℕ
number_for numbers to = unwrap_or (lookup (is_at (nat_cmp to)) numbers) 0

-- one more; numbers stop at 2^64 - 1
abbrev pub one_more : ℕ → ℕ
one_more n = min (n + 1) 18446744073709551615

abbrev pub counted : Numbers → ℕ → Numbers
counted numbers to = insert_entry nat_cmp numbers to (one_more (number_for numbers to))
