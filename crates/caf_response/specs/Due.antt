-- How due counts are kept: in order, and each under its number.
use Rattle.std.specs.Prelude.{◌≡◌, ℕ, List, Some}
use Rattle.std.specs.List.{AllByRecursion}
use Rattle.std.specs.List.Sorted.{IsStrictlySortedBy}
use Rattle.std.specs.Map.{lookup}
use Rattle.std.specs.BTreeMap.{is_at}
use Rattle.std.specs.Ordering.{nat_cmp}
use Rattle.caf_response.specs.Lines.{key_order}

-- the count of each is found under its number
pub record AreCounted (due : List (ℕ × ℕ)) (counts : List (ℕ × ℕ)) : Type 0 where
  pub ordered : IsStrictlySortedBy key_order due
  pub found : AllByRecursion (λ d. lookup (is_at (nat_cmp d.1)) counts ≡ Some d.0) due
