-- Members that are too many.
use Rattle.std.specs.Prelude.{ℕ, ◌||◌, bytes_eq, codes, if◌then◌else◌, Bool, List, Option, Some, None, option_and_then, Ok, Err}
use Rattle.serde_json.specs.Data.{Data as Json, Members, no_members, member}
use Rattle.serde_json.specs.Find.{as_object}
use Rattle.caf_scenario.specs.declared.surplus.Bearer.{Bearer}
use Rattle.caf_scenario.specs.declared.surplus.Bearer.TheVariants as bearer
use Rattle.caf_scenario.specs.Read.{field, Read}

abbrev pub is_actor_member : List ℕ → Bool
is_actor_member name = bytes_eq name (codes "name") || bytes_eq name (codes "kind") || bytes_eq name (codes "peers")

abbrev pub is_sent_member : List ℕ → Bool
is_sent_member name = bytes_eq name (codes "do") || bytes_eq name (codes "to") || bytes_eq name (codes "message") || bytes_eq name (codes "priority")

-- which members an object may have
abbrev pub is_member_of : Bearer → List ℕ → Bool
is_member_of bearer.Document name = bytes_eq name (codes "actors") || bytes_eq name (codes "script")
is_member_of bearer.Actor name = is_actor_member name
is_member_of bearer.Echo name = is_actor_member name || bytes_eq name (codes "asleep")
is_member_of bearer.Spawner name = is_actor_member name || bytes_eq name (codes "children")
is_member_of bearer.Tell name = is_sent_member name
is_member_of bearer.Request name = is_sent_member name || bytes_eq name (codes "within")
is_member_of bearer.Exit name = bytes_eq name (codes "do") || bytes_eq name (codes "to") || bytes_eq name (codes "reason")
is_member_of bearer.Bare name = bytes_eq name (codes "do")

-- the first one, in byte order, that it may not have; members stand in that order
abbrev pub first_surplus : Bearer → Members → Option (List ℕ)
first_surplus b no_members = None
first_surplus b (member name json others) = if is_member_of b name then first_surplus b others else Some name

abbrev pub surplus_in : Bearer → Json → Option (List ℕ)
surplus_in b json = option_and_then (first_surplus b) (as_object json)

-- that, where no member is too many
abbrev pub nothing_more : {A : Type 0} → (List ℕ → List ℕ) → Option (List ℕ) → A → Read A
nothing_more path None x = Ok x
nothing_more path (Some name) x = Err (field (path name))
