use Rattle.std.proofs.Common.{◌≡◌, ◌≤◌, ◌<◌, ℕ, false, get_or, length, vec_len, vec_capacity, Some}
use mathlib.Core.Option.{some}
use lib.ListN.{get_elem?}
use Rattle.std.specs.Mem.Slots.{slots_filled, slots_len, slots_items}
use Rattle.std.specs.Mem.Slots.Ownership.{Filled}
use Rattle.caf_turns.specs.Rule.{Opens}
use Rattle.caf_turns.proofs.turns.Turns.close.Given as goal

abbrev pub invariant-loop-i : goal.invariant-loop-i
invariant-loop-i g l =
    Filled (slots_filled l.closed.slots) l.i (slots_len l.closed.slots)
    × ((k : ℕ) → k < l.i → get_or (slots_filled l.closed.slots) k false ≡ false)
    × (slots_len l.closed.slots ≡ length l.fn.seat.opening) × (slots_items l.closed.slots ≡ slots_items l.initial.closed.slots) × (l.i-end ≡ slots_len l.closed.slots)
    × (vec_len l.room ≡ l.i) × (slots_len l.closed.slots ≤ vec_capacity l.room)
    × ((k : ℕ) (body : _) → get_elem? l.room.items k ≡ some body → Opens g.T.Marked.has_mark l.fn.seat.opening k body)
    × ((k : ℕ) → k < length l.fn.seat.opening → (y : _) × (get_elem? (slots_items l.closed.slots) k ≡ some (Some y)) × Opens g.T.Marked.has_mark l.fn.seat.opening k y)
