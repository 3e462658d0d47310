-- Envelopes with their numbers of arrival.
use Rattle.std.specs.Prelude.{ℕ, ◌==◌, Bool, List, map, Option}
use Rattle.std.specs.Option.{option_map}
use Rattle.caf_message.specs.declared.envelope.Taken.{Taken}
use Rattle.caf_message.specs.Envelope.{plain_envelope}
use Rattle.caf_mailbox.specs.declared.queue.Numbered.{Numbered}

-- an envelope in plain form with its number of arrival
abbrev pub Arrived : Type 0
Arrived = ℕ × Taken

abbrev pub arrived : Numbered → Arrived
arrived x = (x.number, plain_envelope x.envelope)

abbrev pub all_arrived : List Numbered → List Arrived
all_arrived xs = map arrived xs

abbrev pub without_numbers : List Arrived → List Taken
without_numbers zs = map (λ z. z.1) zs

-- ---- tests

-- a test of envelopes, at arrived ones
abbrev pub at_arrived : (Taken → Bool) → Arrived → Bool
at_arrived test z = test z.1

-- whether it answers the request of that number
abbrev pub is_to : ℕ → Arrived → Bool
is_to request z = z.1.mid.number == request

-- the number of the one that is taken
abbrev pub number_taken : Option (Arrived × List Arrived) → Option ℕ
number_taken o = option_map (λ p. p.0.0) o
