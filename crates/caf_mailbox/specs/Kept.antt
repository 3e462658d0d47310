-- The two lists together, and what always holds of them.
use Rattle.std.specs.Prelude.{◌≡◌, ℕ, ◌+◌, length}
use Rattle.caf_mailbox.specs.Caches.{CachedLists}
use Rattle.caf_mailbox.specs.Line.{in_line, IsSorted, IsUpTo, HasNoPlaces}
use Rattle.caf_mailbox.specs.declared.line.Line.{Line}

abbrev pub both : Line → Line → CachedLists
both urgent normal = record { urgent = in_line urgent; normal = in_line normal }

-- the queues of both are in order, and the next number is greater than all that were given
pub record IsKept (next : ℕ) (one other : Line) : Type 0 where
  pub urgent : IsSorted one
  pub normal : IsSorted other
  pub urgent_up_to : IsUpTo next one
  pub normal_up_to : IsUpTo next other

-- between two calls no place is free, and the envelopes are counted
pub record IsCached (next count : ℕ) (one other : Line) : Type 0 where
  pub kept : IsKept next one other
  pub urgent_places : HasNoPlaces one
  pub normal_places : HasNoPlaces other
  pub counted : count ≡ length (in_line one) + length (in_line other)
