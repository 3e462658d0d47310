-- What a worker begins with, and what it brings back.
use Rattle.std.specs.Prelude.{◌≡◌, ℕ, ◌+◌, List, [], ◌∷◌, ◌++◌, map}
use Rattle.atomic_table.specs.Seated.{TableId}
use Rattle.caf_types.specs.Table.{Table}
use Rattle.caf_turns.specs.Seat.{TurnSeatSeen}
use Rattle.caf_sched.specs.Hand.{HandSeen, HasDrawn}
use Rattle.caf_sched.specs.Seat.{IsReady, IsSameSeat}
use Rattle.caf_sched.specs.Tickets.{tickets_for}
use Rattle.caf_sched.specs.Work.{AreServed}
use Rattle.caf_sched.specs.declared.worker.Worker.{Worker}

-- it made no draw in between
abbrev pub SameDraws : HandSeen → HandSeen → Type 0
SameDraws old new = (new.drawn ≡ old.drawn) × (new.empties ≡ old.empties)

module _ {T : Type 0} where
  -- a seat that a worker brings back
  abbrev pub IsPart : TableId → TurnSeatSeen T → Type 0
  IsPart turns s = (s.table ≡ turns) × (s.out ≡ []) × (s.parts ≡ 1)

  -- a worker that may begin: its seat is ready, has made no access, and the table serves the bodies
  abbrev pub IsHired : {M : Type 0} → (T → M → Type 0) → (Table → M → Type 0) → Table → TableId → Worker T → Type 0
  IsHired has entries table turns w = IsReady turns w.seat × (w.seat.steps ≡ []) × AreServed has entries table w.seat.opening

  -- If what it had put was some tickets and those that its steps called for, in order, it still is.
  abbrev pub KeepsTickets : Worker T → Worker T → Type 0
  KeepsTickets old new = (given : List ℕ) → old.hand.puts ≡ given ++ tickets_for old.seat.steps → new.hand.puts ≡ given ++ tickets_for new.seat.steps

  -- What a worker brings back: the seat, in whose steps it is written what it did; the hand, on whose deque it put
  -- exactly the tickets that these steps called for; and it drew.
  abbrev pub Worked : Worker T → Worker T → Type 0
  Worked given back = IsSameSeat given.seat back.seat × (back.hand.puts ≡ given.hand.puts ++ tickets_for back.seat.steps) × HasDrawn back.hand

  abbrev pub hands_of : List (Worker T) → List HandSeen
  hands_of workers = map (λ w. w.hand) workers

  -- the parts of their seats in all
  abbrev pub parts_of : List (Worker T) → ℕ
  parts_of [] = 0
  parts_of (w ∷ workers) = w.seat.parts + parts_of workers
