-- The condition of a turn on the type table.
use Rattle.std.specs.Prelude.{List, All}
use Rattle.caf_types.specs.Table.{Table}

module _ {T M : Type 0} (has : T → M → Type 0) (entries : Table → M → Type 0) (table : Table) where
  -- the table has the entries that one of the body's marks names
  abbrev pub IsServed : T → Type 0
  IsServed body = (m : M) × has body m × entries table m

  abbrev pub AreServed : List T → Type 0
  AreServed bodies = All IsServed bodies
