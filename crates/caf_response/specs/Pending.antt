-- The own requests of an actor that wait for their response.
use Rattle.std.specs.Prelude.{◌≡◌, ℕ, ◌+◌, ◌<◌, ◌≤◌, count_by, ◌==◌, ◌||◌, nat_le, not, Bool, List, [], ◌∷◌, ◌++◌, filter, Option, Some, None, if◌then◌else◌}
use Rattle.std.specs.List.{list_any}
use Rattle.std.specs.List.Sorted.{IsStrictlySortedBy}
use Rattle.std.specs.BTreeSet.{insert_key}
use Rattle.caf_types.specs.Limits.{last_count}
use Rattle.caf_types.specs.declared.shape.TypeId.{TypeId}
use Rattle.caf_message.specs.Lists.{pick}
use Rattle.caf_response.specs.declared.pending.Mode.{Mode}
use Rattle.caf_response.specs.declared.pending.Mode.TheVariants.{Awaited, Multiplexed}
use Rattle.caf_response.specs.declared.pending.Waiting.{Waiting}
use Rattle.caf_response.specs.Lines.{key_order}

-- the stack of awaited requests has its top first; the multiplexed ones stand in order of number; the
-- due counts, each with the number of its request, stand in order of count, then number
pub record WaitingRequests : Type 0 where
  pub next : ℕ
  pub awaited : List Waiting
  pub multiplexed : List Waiting
  pub due : List (ℕ × ℕ)

abbrev pub no_requests : WaitingRequests
no_requests = record { next = 1; awaited = []; multiplexed = []; due = [] }

-- all numbers, from 1 on, were given
abbrev pub HasSpent : WaitingRequests → Type 0
HasSpent r = last_count < r.next

-- ---- issuing

abbrev pub add_waiting : WaitingRequests → Mode → Waiting → WaitingRequests
add_waiting r Awaited w = record r { awaited = w ∷ r.awaited }
add_waiting r Multiplexed w = record r { multiplexed = r.multiplexed ++ w ∷ [] }

-- a request gets the next number and waits
abbrev pub issued : WaitingRequests → Mode → ℕ → List TypeId → WaitingRequests
issued r mode tag expected = add_waiting (record r { next = r.next + 1 }) mode (record { number = r.next; tag = tag; expected = expected })

-- its time is over at that count of ticks
abbrev pub issued_within : WaitingRequests → Mode → ℕ → List TypeId → ℕ → WaitingRequests
issued_within r mode tag expected due = record (issued r mode tag expected) { due = insert_key key_order r.due (due, r.next) }

-- the awaited request issued last
abbrev pub top_number : List Waiting → Option ℕ
top_number [] = None
top_number (w ∷ ws) = Some w.number

-- ---- resolving

abbrev pub has_number : ℕ → Waiting → Bool
has_number number w = w.number == number

abbrev pub is_waiting : WaitingRequests → ℕ → Bool
is_waiting r number = list_any (has_number number) r.multiplexed || list_any (has_number number) r.awaited

abbrev pub is_due : ℕ → ℕ × ℕ → Bool
is_due number d = d.1 == number

-- the due counts of the other requests
abbrev pub without_due : ℕ → List (ℕ × ℕ) → List (ℕ × ℕ)
without_due number due = filter (λ d. not (is_due number d)) due

abbrev pub from_awaited : WaitingRequests → ℕ → Option (Waiting × List Waiting) → Option (Waiting × WaitingRequests)
from_awaited r number None = None
from_awaited r number (Some found) = Some (found.0, record r { awaited = found.1; due = without_due number r.due })

abbrev pub from_multiplexed : WaitingRequests → ℕ → Option (Waiting × List Waiting) → Option (Waiting × WaitingRequests)
from_multiplexed r number None = from_awaited r number (pick (has_number number) r.awaited)
from_multiplexed r number (Some found) = Some (found.0, record r { multiplexed = found.1; due = without_due number r.due })

-- the request with that number, and the others; its due count ends with it
abbrev pub resolved : WaitingRequests → ℕ → Option (Waiting × WaitingRequests)
resolved r number = from_multiplexed r number (pick (has_number number) r.multiplexed)

-- ---- whose time is over

-- the number with the least due count, then the least number, where it is due by now
abbrev pub due_by : ℕ → List (ℕ × ℕ) → Option ℕ
due_by now [] = None
due_by now (d ∷ ds) = if nat_le d.0 now then Some d.1 else None

abbrev pub resolved_where : WaitingRequests → Option ℕ → Option (Waiting × WaitingRequests)
resolved_where r None = None
resolved_where r (Some number) = resolved r number

-- the request that is due first, where it is due by now, and the others
abbrev pub expired : WaitingRequests → ℕ → Option (Waiting × WaitingRequests)
expired r now = resolved_where r (due_by now r.due)

-- ---- quitting

-- no request waits any more or is due, and the next number stays
abbrev pub forgotten : WaitingRequests → WaitingRequests
forgotten r = record { next = r.next; awaited = []; multiplexed = []; due = [] }

-- ---- what always holds

abbrev pub waiting_count : WaitingRequests → ℕ → ℕ
waiting_count r number = count_by (has_number number) r.awaited + count_by (has_number number) r.multiplexed

abbrev pub due_count : WaitingRequests → ℕ → ℕ
due_count r number = count_by (is_due number) r.due

-- numbers are given from 1 on; a number waits at most once, and only after it was given; it has at
-- most one due count, and only while it waits
pub record AreNumbered (r : WaitingRequests) : Type 0 where
  pub next : 1 ≤ r.next
  pub zero : waiting_count r 0 ≡ 0
  pub once : (number : ℕ) → waiting_count r number ≤ 1
  pub given : (number : ℕ) → r.next ≤ number → waiting_count r number ≡ 0
  pub due : (number : ℕ) → due_count r number ≤ waiting_count r number
  pub ordered : IsStrictlySortedBy key_order r.due
