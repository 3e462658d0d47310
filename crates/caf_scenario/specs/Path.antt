-- Paths: names of members and positions from 0, joined by dots. That of the whole document is the empty text.
use Rattle.std.specs.Prelude.{ℕ, List, ◌++◌, codes, decimal}
use Rattle.caf_scenario.specs.declared.spot.ListName.{ListName}
use Rattle.caf_scenario.specs.declared.spot.ListName.TheVariants as list
use Rattle.caf_scenario.specs.declared.spot.Spot.{Spot}

abbrev pub at_member : List ℕ → List ℕ → List ℕ
at_member path name = path ++ codes "." ++ name

abbrev pub at_position : List ℕ → ℕ → List ℕ
at_position path i = path ++ codes "." ++ decimal i

abbrev pub list_name : ListName → List ℕ
list_name list.Actors = codes "actors"
list_name list.Script = codes "script"

-- the path of an element of one of the two lists
abbrev pub spot_path : Spot → List ℕ
spot_path spot = at_position (list_name spot.list) spot.position

abbrev pub actor_path : ℕ → List ℕ
actor_path i = at_position (codes "actors") i

abbrev pub step_path : ℕ → List ℕ
step_path i = at_position (codes "script") i
