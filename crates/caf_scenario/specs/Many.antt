-- Too many actors, sources or steps.
use Rattle.std.specs.Prelude.{ℕ, ◌+◌, ◌||◌, nat_lt, not, bytes_eq, codes, Bool, List, [], ◌∷◌, length, count_by, Option}
use Rattle.caf_scenario.specs.declared.written.WrittenActor.{WrittenActor}
use Rattle.caf_scenario.specs.Written.{Document}
use Rattle.caf_scenario.specs.Read.{Cause, many, unless}

abbrev pub is_source : WrittenActor → Bool
is_source actor = bytes_eq actor.kind (codes "source")

-- how many places the actors reserve for children
abbrev pub all_children : List WrittenActor → ℕ
all_children [] = 0
all_children (a ∷ others) = a.children + all_children others

-- actors and their children
abbrev pub places_used : List WrittenActor → ℕ
places_used actors = length actors + all_children actors

-- over 1,000 steps, over 255 actors with their children, or over one source
abbrev pub is_many : Document → Bool
is_many d = nat_lt 1000 (length d.script) || nat_lt 255 (places_used d.actors) || nat_lt 1 (count_by is_source d.actors)

abbrev pub many_fault : Document → Option Cause
many_fault d = unless (not (is_many d)) many
