-- What waits to be taken, by receiver and sender, and the receivers for which something waits.
use Rattle.std.specs.Prelude.{◌≡◌, ℕ, ◌<◌, ◌==◌, ◌&&◌, if◌then◌else◌, List, [], ◌∷◌, ◌++◌, length, slice_index_or, slice_set}
use Rattle.caf_message.specs.declared.envelope.Taken.{Taken}
use Rattle.caf_driver.specs.Places.{is_filled, IsRising, has_place}
use Rattle.caf_driver.specs.Arrivals.{Arriving, nothing_arriving, from_sender, IsArriving, length_of}

pub record Waiting : Type 0 where
  -- by receiver
  pub arrivals : List Arriving
  -- in rising order
  pub offered : List ℕ

-- what waits for a place
abbrev pub arriving_at : Waiting → ℕ → Arriving
arriving_at v b = slice_index_or v.arrivals b nothing_arriving

-- what waits of a sender for a receiver
abbrev pub waiting_in : Waiting → ℕ → ℕ → List Taken
waiting_in v a b = from_sender (arriving_at v b) a

-- the offered places are those for which something waits
pub record IsMail (v : Waiting) : Type 0 where
  pub rising : IsRising v.offered
  pub offered : (b : ℕ) → has_place v.offered b ≡ is_filled (arriving_at v b).senders
  pub arrivals : (b : ℕ) → IsArriving (arriving_at v b)

-- how many envelopes wait for a place
abbrev pub length_at : Waiting → ℕ → ℕ
length_at v b = length_of (arriving_at v b).queues

-- ---- what changes it

-- other things wait for this place, and all else is as before
pub record HasArrivals (old : Waiting) (place : ℕ) (new : Waiting) : Type 0 where
  pub arrivals : new.arrivals ≡ slice_set old.arrivals place (arriving_at new place)
  pub offered : new.offered ≡ old.offered
  pub known : place < length old.arrivals
  pub arriving : IsArriving (arriving_at new place)

-- the envelope waits at the place, behind what its sender sent there before
pub record HasPosted (old : Waiting) (to : ℕ) (e : Taken) (new : Waiting) : Type 0 where
  pub mail : IsMail new
  pub places : length new.arrivals ≡ length old.arrivals
  pub waiting : (a b : ℕ) → waiting_in new a b ≡ (if (a == e.sender) && (b == to) then waiting_in old a b ++ e ∷ [] else waiting_in old a b)

-- it was the first of the sender that waited at the place
pub record HasGiven (old : Waiting) (place sender : ℕ) (e : Taken) (new : Waiting) : Type 0 where
  pub mail : IsMail new
  pub places : length new.arrivals ≡ length old.arrivals
  pub own : e.sender ≡ sender
  pub waiting : (a b : ℕ) → (if (a == sender) && (b == place) then e ∷ waiting_in new a b else waiting_in new a b) ≡ waiting_in old a b
