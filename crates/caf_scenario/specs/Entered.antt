-- Names that are entered one by one.
use Rattle.std.specs.Prelude.{◌≡◌, ◌≢◌, ℕ, List, Some, false}
use Rattle.caf_kinds.specs.declared.setup.KindName.{KindName}
use Rattle.caf_scenario.specs.Actors.{Finder, is_taken}

-- one more is found, under a name that was free
pub record IsEntered (name : List ℕ) (found : ℕ × KindName) (before after : Finder) : Type 0 where
  pub free : is_taken before name ≡ false
  pub there : after name ≡ Some found
  pub others : (other : List ℕ) → other ≢ name → after other ≡ before other
