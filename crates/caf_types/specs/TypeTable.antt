-- The program's table as a plain one, and its answer to a new block.
use Rattle.std.specs.Prelude.{◌≡◌, Option, Some, None, Result, Ok, Err, ⊤}
use Rattle.caf_types.specs.Listing.{types_of}
use Rattle.caf_types.specs.Table.{Table, Refusal, out_of_range, taken_id, taken_name, too_deep}
use Rattle.caf_types.specs.declared.table.TypeTable.{TypeTable}
use Rattle.caf_types.specs.declared.table_fault.TableFault.{TableFault}
use Rattle.caf_types.specs.declared.table_fault.TableFault.TheVariants as faults

-- the plain table
abbrev pub seen : TypeTable → Table
seen t = record { types = types_of t.types; blocks = t.blocks }

-- a fault is that refusal; want of memory has no cause
abbrev pub Refused : TableFault → Option Refusal → Type 0
Refused faults.Memory r = Unit {0}
Refused faults.Range r = r ≡ Some out_of_range
Refused (faults.Taken id) r = r ≡ Some (taken_id id.0)
Refused (faults.Name n) r = r ≡ Some (taken_name n)
Refused (faults.Deep id) r = r ≡ Some (too_deep id.0)

abbrev pub TableAnswer : Result ⊤ TableFault → Option Refusal → Type 0
TableAnswer (Ok u) r = r ≡ None
TableAnswer (Err fault) r = Refused fault r
