-- An actor in form: its members in order, then those that are too many.
use Rattle.std.specs.Prelude.{ℕ, bytes_eq, codes, if◌then◌else◌, Bool, false, List, [], Ok}
use Rattle.serde_json.specs.Data.{Data as Json}
use Rattle.serde_json.specs.Find.{as_str, as_bool, as_object}
use Rattle.caf_scenario.specs.declared.surplus.Bearer.{Bearer}
use Rattle.caf_scenario.specs.declared.surplus.Bearer.TheVariants as bearer
use Rattle.caf_scenario.specs.declared.written.WrittenActor.{WrittenActor}
use Rattle.caf_scenario.specs.Path.{at_member, at_position, actor_path}
use Rattle.caf_scenario.specs.Forms.{name_in, number_in, elements_in, must_have, may_have}
use Rattle.caf_scenario.specs.Surplus.{surplus_in, nothing_more}
use Rattle.caf_scenario.specs.Read.{field, Read, ◌>>=◌, or_cause, each_of}

-- what stands at the path is an object, of which that is read
abbrev pub in_object : {A : Type 0} → List ℕ → Json → Read A → Read A
in_object path json read = or_cause (field path) (as_object json) >>= λ _. read

-- ---- peers

abbrev pub peer_of : List ℕ → ℕ → Json → Read (List ℕ)
peer_of path i json = or_cause (field (at_position path i)) (name_in json)

abbrev pub peers_of : List ℕ → Json → Read (List (List ℕ))
peers_of path json = may_have elements_in [] path (codes "peers") json >>= each_of (peer_of (at_member path (codes "peers"))) 0

-- ---- members that one kind alone may have

abbrev pub is_echo : List ℕ → Bool
is_echo kind = bytes_eq kind (codes "echo")

abbrev pub is_spawner : List ℕ → Bool
is_spawner kind = bytes_eq kind (codes "spawner")

-- how many places it reserves for children
abbrev pub children_of : List ℕ → List ℕ → Json → Read ℕ
children_of path kind json = if is_spawner kind then may_have (number_in 0 254) 0 path (codes "children") json else Ok 0

abbrev pub asleep_of : List ℕ → List ℕ → Json → Read Bool
asleep_of path kind json = if is_echo kind then may_have as_bool false path (codes "asleep") json else Ok false

abbrev pub bearer_of : List ℕ → Bearer
bearer_of kind = if is_echo kind then bearer.Echo else if is_spawner kind then bearer.Spawner else bearer.Actor

-- ---- the actor at a position

abbrev pub actor_in : List ℕ → Json → Read WrittenActor
actor_in path json =
    must_have name_in path (codes "name") json >>= λ name.
    must_have as_str path (codes "kind") json >>= λ kind.
    peers_of path json >>= λ peers.
    children_of path kind json >>= λ children.
    asleep_of path kind json >>= λ asleep.
    nothing_more (at_member path) (surplus_in (bearer_of kind) json)
    (record { name = name; kind = kind; peers = peers; children = children; asleep = asleep })

abbrev pub actor_of : ℕ → Json → Read WrittenActor
actor_of i json = in_object (actor_path i) json (actor_in (actor_path i) json)
