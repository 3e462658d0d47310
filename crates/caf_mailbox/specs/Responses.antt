-- The responses of a line, and the places that are free for responses of a batch.
use Rattle.std.specs.Prelude.{◌≡◌, ◌<◌, ◌==◌, ◌-◌, ℕ, length, Bool, true, false, cond, List, [], ◌∷◌, Option, Some, None, IfSome, IfNone, slice_get}
use Rattle.std.specs.List.{AllByRecursion, list_any}
use Rattle.std.specs.List.Sorted.{IsStrictlySortedBy}
use Rattle.std.specs.Option.{option_map}
use Rattle.std.specs.Ordering.{nat_cmp, ordering_then}
use Rattle.std.specs.declared.cmp.Ordering.{Ordering}
use Rattle.std.specs.Map.{lookup, keys_of}
use Rattle.std.specs.BTreeMap.{is_at}
use Rattle.caf_message.specs.Envelope.{plain_envelope}
use Rattle.caf_message.specs.declared.envelope.Envelope.{Envelope}
use Rattle.caf_mailbox.specs.Arrived.{Arrived}
use Rattle.caf_mailbox.specs.declared.responses.Slot.{Slot}

-- those that are in, in order of arrival, and behind them the free places: the number of arrival and
-- the number of the request for which each was made
pub record CachedResponses : Type 0 where
  pub here : List Arrived
  pub room : List (ℕ × ℕ)

abbrev pub no_responses : CachedResponses
no_responses = record { here = []; room = [] }

abbrev pub first_number : List Arrived → Option ℕ
first_number zs = option_map (λ z. z.0) (slice_get zs 0)

-- ---- how they are kept

abbrev pub Slots : Type 0
Slots = List (ℕ × Slot)

abbrev pub and_here : ℕ → Option Envelope → List Arrived → List Arrived
and_here number None rest = rest
and_here number (Some e) rest = (number, plain_envelope e) ∷ rest

abbrev pub here_in : Slots → List Arrived
here_in [] = []
here_in (s ∷ ss) = and_here s.0 s.1.envelope (here_in ss)

abbrev pub and_room : ℕ × ℕ → Option Envelope → List (ℕ × ℕ) → List (ℕ × ℕ)
and_room place None rest = place ∷ rest
and_room place (Some e) rest = rest

abbrev pub room_in : Slots → List (ℕ × ℕ)
room_in [] = []
room_in (s ∷ ss) = and_room (s.0, s.1.request) s.1.envelope (room_in ss)

-- behind a free place all are free
abbrev pub HereFirst : Slots → Type 0
HereFirst [] = Unit {0}
HereFirst (s ∷ ss) = IfNone s.1.envelope (here_in ss ≡ []) × HereFirst ss

-- there is a last place, and it is free
abbrev pub IsLastFree : Slots → Type 0
IsLastFree ss = IfSome (slice_get ss (length ss - 1)) (λ s. s.1.envelope ≡ None) × (0 < length ss)

-- by the first number, then by the second
abbrev pub pair_order : ℕ × ℕ → ℕ × ℕ → Ordering
pair_order a b = ordering_then (nat_cmp a.0 b.0) (nat_cmp a.1 b.1)

-- the place with that number of arrival
abbrev pub slot_at : Slots → ℕ → Option Slot
slot_at ss number = lookup (is_at (nat_cmp number)) ss

abbrev pub is_for : ℕ → Option Slot → Bool
is_for request None = false
is_for request (Some s) = s.request == request

abbrev pub has_key : List (ℕ × ℕ) → ℕ × ℕ → Bool
has_key keys key = list_any (is_at (pair_order key)) keys

-- a key came, or went
abbrev pub FollowsKeys : List (ℕ × ℕ) → List (ℕ × ℕ) → ℕ × ℕ → Bool → Type 0
FollowsKeys keys more key there = (q : ℕ × ℕ) → has_key more q ≡ cond (is_at (pair_order key) q) there (has_key keys q)

-- each place is listed under the number of its request, and nothing else is
abbrev pub AreIndexed : Slots → List (ℕ × ℕ) → Type 0
AreIndexed ss keys = (request number : ℕ) → has_key keys (request, number) ≡ is_for request (slot_at ss number)

pub record AreListed (ss : Slots) (keys : List (ℕ × ℕ)) : Type 0 where
  pub ordered : IsStrictlySortedBy nat_cmp (keys_of ss)
  pub first : HereFirst ss
  pub numbered : AllByRecursion (λ s. IfSome s.1.envelope (λ e. e.mid.number ≡ s.1.request)) ss
  pub indexed : AreIndexed ss keys

-- the first place for a response to that request
pub record IsFirstTo (request number : ℕ) (keys : List (ℕ × ℕ)) : Type 0 where
  pub there : has_key keys (request, number) ≡ true
  pub least : (n : ℕ) → n < number → has_key keys (request, n) ≡ false
