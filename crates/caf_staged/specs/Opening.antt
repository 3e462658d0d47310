-- Behaviours that fit a place of a play.
use Rattle.std.specs.Prelude.{ℕ, ◌==◌, ◌&&◌, nat_lt, Bool, List}
use Rattle.std.specs.List.{list_all}
use Rattle.caf_scripted.specs.declared.scripted.Scripted.{Scripted}

abbrev pub are_below : ℕ → List ℕ → Bool
are_below count list = list_all (λ place. nat_lt place count) list

-- the behaviour is of that place, and sends to so many places alone
abbrev pub belongs : Scripted → ℕ → ℕ → Bool
belongs s place count = ((s.place == place) && are_below count s.peers) && are_below count s.reserve
