-- Table entries by their IDs, and the tables that have them.
use Rattle.std.specs.Prelude.{◌≡◌, ℕ, Option, Some}
use Rattle.std.specs.Ordering.{nat_cmp}
use Rattle.std.specs.Option.{option_map}
use Rattle.std.specs.FinMap as finite
use Rattle.caf_types.specs.ShapeTree.{ShapeTree}
use Rattle.caf_types.specs.Table.{Named, Table, type_at}

-- finitely many IDs, each with the name and the shape of its type
abbrev pub TableEntries : Type 0
TableEntries = finite.FinMap nat_cmp Named

-- the shape that an ID has among the entries
abbrev pub entry_shape : TableEntries → ℕ → Option ShapeTree
entry_shape entries id = option_map (λ (n : Named). n.shape) (finite.get entries id)

-- the table has the entries
abbrev pub HasEntries : Table → TableEntries → Type 0
HasEntries t entries = (id : ℕ) (n : Named) → finite.get entries id ≡ Some n → type_at t.types id ≡ Some n
