-- Which responses may be handled, by the numbers of their requests.
use Rattle.std.specs.Prelude.{ℕ, ◌==◌, Bool, true, false}
use Rattle.caf_mailbox.specs.declared.eligible.Awaited.{Awaited}
use Rattle.caf_mailbox.specs.declared.eligible.Awaited.TheVariants.{Any, Only, Nothing}

abbrev pub is_awaited : Awaited → ℕ → Bool
is_awaited Any number = true
is_awaited (Only awaited) number = number == awaited
is_awaited Nothing number = false
