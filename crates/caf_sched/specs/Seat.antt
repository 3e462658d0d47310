-- What the seats of a crew's workers have in common.
use Rattle.std.specs.Prelude.{◌≡◌, List, []}
use Rattle.atomic_table.specs.Seated.{TableId}
use Rattle.caf_turns.specs.Seat.{TurnSeatSeen}

module _ {T : Type 0} where
  -- a seat at these bodies that has none out
  abbrev pub IsReady : TableId → TurnSeatSeen T → Type 0
  IsReady turns s = (s.table ≡ turns) × (s.out ≡ [])

  -- the seat but for its steps
  abbrev pub IsSameSeat : TurnSeatSeen T → TurnSeatSeen T → Type 0
  IsSameSeat old new = (new.table ≡ old.table) × (new.opening ≡ old.opening) × (new.out ≡ old.out) × (new.parts ≡ old.parts) × (new.splits ≡ old.splits)

  -- the seat but for its parts, its splits and its steps
  abbrev pub Stays : TurnSeatSeen T → TurnSeatSeen T → Type 0
  Stays old new = (new.table ≡ old.table) × (new.opening ≡ old.opening) × (new.out ≡ old.out)

  -- a seat that was just split off
  abbrev pub new_seat : TableId → List T → TurnSeatSeen T
  new_seat turns opening = record { table = turns; opening = opening; parts = 1; splits = 0; out = []; steps = [] }
