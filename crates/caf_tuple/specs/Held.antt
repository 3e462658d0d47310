-- A seat with one reference to a block.
use Rattle.std.specs.Prelude.{◌≡◌, ◌+◌, ◌≤◌, [], length}
use Rattle.atomic_table.specs.Seated.{TableId}
use Rattle.atomic_table.specs.declared.shared.Seat.{Seat}
use Rattle.caf_tuple.specs.declared.block.View.{View}
use Rattle.caf_tuple.specs.declared.block.TheConstants.{MOST_WORDS}

pub record IsReference (block : TableId) (seat : Seat (Unit {0}) View) : Type 0 where
  pub of_block : seat.table_id ≡ block
  pub no_slots : seat.me.1 ≡ []
  pub one : seat.me.0.refs ≡ 1
  -- the words of the block are the count and the content
  pub whole : block.words ≡ length seat.me.0.seen.content + 1
  pub within : length seat.me.0.seen.content ≤ MOST_WORDS
