-- Kinds that are none, names that stand twice, and numbers of peers.
use Rattle.std.specs.Prelude.{ℕ, ◌+◌, ◌||◌, bytes_eq, codes, not, if◌then◌else◌, Bool, List, [], ◌∷◌, length, take, Option, Some, None, is_some, unwrap_or}
use Rattle.caf_kinds.specs.declared.setup.KindName.{KindName}
use Rattle.caf_kinds.specs.declared.setup.KindName.TheVariants as name
use Rattle.caf_kinds.specs.Kinds.{has_peers}
use Rattle.caf_scenario.specs.declared.written.WrittenActor.{WrittenActor}
use Rattle.caf_scenario.specs.Path.{at_member, actor_path}
use Rattle.caf_scenario.specs.First.{first_of}
use Rattle.caf_scenario.specs.Read.{Cause, field, kind, twice, or_else, unless}

-- ---- kinds

-- the kind of that name: each but the conductor's
abbrev pub kind_named : List ℕ → Option KindName
kind_named text =
    if bytes_eq text (codes "echo") then Some name.Echo
    else if bytes_eq text (codes "cell") then Some name.Cell
    else if bytes_eq text (codes "calc") then Some name.Calc
    else if bytes_eq text (codes "holder") then Some name.Holder
    else if bytes_eq text (codes "quitter") then Some name.Quitter
    else if bytes_eq text (codes "source") then Some name.Source
    else if bytes_eq text (codes "relay") then Some name.Relay
    else if bytes_eq text (codes "counter") then Some name.Counter
    else if bytes_eq text (codes "lines") then Some name.Lines
    else if bytes_eq text (codes "collector") then Some name.Collector
    else if bytes_eq text (codes "watcher") then Some name.Watcher
    else if bytes_eq text (codes "spawner") then Some name.Spawner
    else if bytes_eq text (codes "alarm") then Some name.Alarm
    else None

-- the kind of an actor; what names no kind is taken for a calc
abbrev pub kind_of : WrittenActor → KindName
kind_of actor = unwrap_or (kind_named actor.kind) name.Calc

-- ---- names

-- who has which place and is of which kind, by name
abbrev pub Finder : Type 0
Finder = List ℕ → Option (ℕ × KindName)

-- the actor of that name, where the first one has that place
abbrev pub named_from : ℕ → List WrittenActor → Finder
named_from place [] name = None
named_from place (a ∷ others) name = if bytes_eq a.name name then Some (place, kind_of a) else named_from (place + 1) others name

-- actors have the places from 1 on
abbrev pub actor_named : List WrittenActor → Finder
actor_named actors name = named_from 1 actors name

abbrev pub conductor : List ℕ
conductor = codes "conductor"

-- the name is the conductor's, or that of one of those
abbrev pub is_taken : Finder → List ℕ → Bool
is_taken who name = bytes_eq name conductor || is_some (who name)

-- ---- faults

-- of the actor at that position, where those came before it
abbrev pub actor_fault : Finder → ℕ → WrittenActor → Option Cause
actor_fault before i actor =
    or_else (unless (is_some (kind_named actor.kind)) (kind actor.kind)) (
    or_else (unless (not (is_taken before actor.name)) (twice actor.name))
    (unless (has_peers (kind_of actor) (length actor.peers)) (field (at_member (actor_path i) (codes "peers")))))

abbrev pub actors_fault : List WrittenActor → Option Cause
actors_fault actors = first_of (λ i actor. actor_fault (actor_named (take i actors)) i actor) 0 actors
