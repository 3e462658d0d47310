-- What a batch takes out of what waits, and what its posts bring.
use Rattle.std.specs.Prelude.{◌≡◌, ℕ, ◌==◌, false, List, ◌++◌, length}
use Rattle.std.specs.List.{AllByRecursion}
use Rattle.caf_message.specs.declared.envelope.Taken.{Taken}
use Rattle.caf_actor.specs.PlainPost.{PlainPost}
use Rattle.caf_actor.specs.Record.{from_place, to_place, when}
use Rattle.caf_driver.specs.Mail.{Waiting, waiting_in, IsMail}

-- the posts of a place wait where they go
pub record HasDelivered (old : Waiting) (from : ℕ) (posts : List PlainPost) (new : Waiting) : Type 0 where
  pub mail : IsMail new
  pub places : length new.arrivals ≡ length old.arrivals
  pub waiting : (a b : ℕ) → waiting_in new a b ≡ waiting_in old a b ++ when (a == from) (to_place b posts)

-- these are still to come of all that the place posted
pub record IsDelivering (old : Waiting) (from : ℕ) (posts rest : List PlainPost) (now : Waiting) : Type 0 where
  pub own : AllByRecursion (λ (p : PlainPost). p.envelope.sender ≡ from) rest
  pub waiting : (a b : ℕ) → waiting_in now a b ++ when (a == from) (to_place b rest) ≡ waiting_in old a b ++ when (a == from) (to_place b posts)

-- these no longer wait at the place: of each sender the next ones
pub record HasTakenOut (old : Waiting) (place : ℕ) (es : List Taken) (new : Waiting) : Type 0 where
  pub mail : IsMail new
  pub places : length new.arrivals ≡ length old.arrivals
  pub next : (a : ℕ) → from_place a es ++ waiting_in new a place ≡ waiting_in old a place
  pub others : (a b : ℕ) → (b == place) ≡ false → waiting_in new a b ≡ waiting_in old a b
