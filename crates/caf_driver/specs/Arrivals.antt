-- What waits to be taken by one place: a list for each sender, and the senders of whom something waits.
use Rattle.std.specs.Prelude.{◌≡◌, ℕ, ◌+◌, ◌<◌, ◌==◌, Bool, if◌then◌else◌, List, [], ◌∷◌, ◌++◌, length, slice_index_or, slice_set}
use Rattle.std.specs.List.{AllByRecursion, list_any}
use Rattle.caf_types.specs.Limits.{latest_stamp}
use Rattle.caf_message.specs.declared.envelope.Taken.{Taken}
use Rattle.caf_driver.specs.Places.{is_filled, IsRising, has_place}

pub record Arriving : Type 0 where
  -- by sender, as far as there was a sender
  pub queues : List (List Taken)
  -- in rising order
  pub senders : List ℕ

abbrev pub nothing_arriving : Arriving
nothing_arriving = record { queues = []; senders = [] }

abbrev pub from_sender : Arriving → ℕ → List Taken
from_sender w a = slice_index_or w.queues a []

-- the senders are those of whom something waits, and what waits of a sender is from it
pub record IsArriving (w : Arriving) : Type 0 where
  pub rising : IsRising w.senders
  pub offered : (a : ℕ) → has_place w.senders a ≡ is_filled (from_sender w a)
  pub own : (a : ℕ) → AllByRecursion (λ e. e.sender ≡ a) (from_sender w a)

-- one of them has the last stamp
abbrev pub has_last : List Taken → Bool
has_last es = list_any (λ e. e.stamp == latest_stamp) es

-- how many envelopes wait
abbrev pub length_of : List (List Taken) → ℕ
length_of [] = 0
length_of (q ∷ qs) = length q + length_of qs

-- the sender has this queue now, and all else is as before
pub record HasQueue (old : Arriving) (sender : ℕ) (queue : List Taken) (new : Arriving) : Type 0 where
  pub queues : new.queues ≡ slice_set old.queues sender queue
  pub senders : new.senders ≡ old.senders
  pub known : sender < length old.queues

-- the envelope waits behind what its sender sent before
abbrev pub HasPushed : Arriving → Taken → Arriving → Type 0
HasPushed old e new = (a : ℕ) → from_sender new a ≡ (if a == e.sender then from_sender old a ++ e ∷ [] else from_sender old a)

-- it was the first that waited of the sender
abbrev pub HasPopped : Arriving → ℕ → Taken → Arriving → Type 0
HasPopped old sender e new = (a : ℕ) → (if a == sender then e ∷ from_sender new a else from_sender new a) ≡ from_sender old a
