-- What a contract sees of a seat.
use Rattle.std.specs.Prelude.{ℕ, List}
use Rattle.atomic_table.specs.Seated.{TableId}
use Rattle.caf_turns.specs.declared.step.Step.{Step}

pub record TurnSeatSeen (T : Type 0) : Type 0 where
  -- whose seat it is
  pub table : TableId
  -- the bodies as they were given
  pub opening : List T
  -- of the parts of the first seat, those that came to this one
  pub parts : ℕ
  -- how many more seats may be split from it
  pub splits : ℕ
  -- the numbers of the bodies that it has out
  pub out : List ℕ
  -- its accesses, the newest last
  pub steps : List Step
